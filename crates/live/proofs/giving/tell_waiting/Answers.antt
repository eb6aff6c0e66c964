-- The lines of one hart after the other are told: by a lemma on lists, which no tactic finds.
use Rattle.std.proofs.Common.{◌≡◌, ◌∙◌, Some, ap, slice_get, sym, subst}
use Rattle.std.proofs.lemmas.Option.{slice_get-get_or}
use Rattle.live.specs.Auditing.{waiting_at, waiting_in}
use Rattle.live.specs.Live.{strange_lines}
use Rattle.live.proofs.Telling.{told_next}
use Rattle.live.proofs.giving.tell_waiting.Goals.{in-Some, in_default}
use Rattle.live.proofs.giving.tell_waiting.Goals as goal

pub loop-waiting-preserved : goal.loop-waiting-preserved
loop-waiting-preserved g c =
    let waiting = c.args.waiting.now in
    let hart = c.loop-waiting.waiting-index in
    let at : slice_get waiting hart ≡ Some c.waiting-item.result =
    slice_get-get_or waiting hart c.waiting-item.result c.loop-waiting-test.true ∙ ap Some (sym c.waiting-item.is) in
    let more = told_next g.row.L.Denot (λ first told last. g.L.LiveLines.Told first told last)
    g.met.L.LiveLines.joined c.args.lines.now c.loop-waiting.lines c.match-waiting.lines
    (λ other. strange_lines (waiting_in waiting other)) hart c.loop-waiting.invariant in
    more (elim c.match-waiting.branch [
      | in-Some w ↦
          rw w.lines-is
          (subst (λ told. g.L.LiveLines.Told c.loop-waiting.lines told w.decided.new.self)
          (sym (ap (λ o. strange_lines (waiting_at o)) at ∙ ap strange_lines w.in-Some.is)) w.decided.ensures)
      | in_default w ↦
          rw w.lines-is
          (subst (λ told. g.L.LiveLines.Told c.loop-waiting.lines told c.loop-waiting.lines)
          (sym (ap (λ o. strange_lines (waiting_at o)) at ∙ ap strange_lines w.in_default.is))
          (g.met.L.LiveLines.nothing c.loop-waiting.lines))
    ])
