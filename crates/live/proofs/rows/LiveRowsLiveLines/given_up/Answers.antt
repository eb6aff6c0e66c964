-- A line is counted: by a lemma on the counts of the harts, which no tactic finds.
use Rattle.std.proofs.Common.{[], ◌∷◌, refl, slice_get, subst}
use Rattle.live.specs.Lines.{Line, GivenUp}
use Rattle.live.specs.Rows.{CountsMore, LineRows, given_counts}
use Rattle.live.proofs.Counting.{counts_line}
use Rattle.live.proofs.rows.LiveRowsLiveLines.given_up.Goals as goal

pub returns : goal.returns
returns g c =
    let line : Line = GivenUp c.args.slot.now in
    let own : LineRows = record { counts = c.self.inside.counts.items; others = c.self.inside.others } in
    subst (λ old. CountsMore old (line ∷ [])
    (record { counts = c.count_given.new.counts.items; others = c.self.inside.others })) c.self.view_is
    (counts_line own line (given_counts c.args.slot.now.came) refl (slice_get own.counts c.args.slot.now.message.hart) refl
    c.count_given.new.counts.items c.count_given.ensures own.others refl (λ known other. refl))
