-- The row is the one of what is kept of the hart, which no tactic finds.
use Rattle.std.proofs.Common.{◌≡◌, ◌<◌, ◌∙◌, Some, length, slice_get, ap, sym, arith}
use Rattle.std.proofs.lemmas.Option.{slice_get-get_or}
use Rattle.live.specs.Rows.{LineRows, row_by}
use Rattle.live.proofs.rows.LiveRows.row.Goals as goal

pub returns : goal.returns
returns g c = λ lines counted.
    let hart = c.args.hart in
    let own = c.index.result.now in
    let counts = c.self.inside.counts.items in
    let known = c.requires.known in
    let count = ap (λ (l : LineRows). length l.counts) c.self.view_is in
    let within : hart < length counts = omega (arith, known, count) in
    let at : slice_get c.args.self.now.counts hart ≡ Some own =
    ap (λ (l : LineRows). slice_get l.counts hart) (sym c.self.view_is)
    ∙ slice_get-get_or counts hart own within ∙ ap Some (sym c.index.ensures) in
    c.row.ensures ∙ ap row_by (counted.each hart own at)
