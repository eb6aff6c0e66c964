-- A line is counted: by a lemma on the counts of the harts, which no tactic finds.
use Rattle.std.proofs.Common.{[], ◌∷◌, refl, slice_get, subst}
use Rattle.live.specs.Lines.{Line, TooLate}
use Rattle.live.specs.Rows.{CountsMore, LineRows, late_counts}
use Rattle.live.proofs.Counting.{counts_line}
use Rattle.live.proofs.rows.LiveRowsLiveLines.too_late.Goals as goal

pub returns : goal.returns
returns g c =
    let line : Line = TooLate c.args.one.now in
    let own : LineRows = record { counts = c.self.inside.counts.items; others = c.self.inside.others } in
    subst (λ old. CountsMore old (line ∷ [])
    (record { counts = c.count_late.new.counts.items; others = c.self.inside.others })) c.self.view_is
    (counts_line own line late_counts refl (slice_get own.counts c.args.one.now.message.hart) refl
    c.count_late.new.counts.items c.count_late.ensures own.others refl (λ known other. refl))
