-- The prover adds no job to those that are done: the lemma on one more is handed to it.
use Rattle.std.proofs.Common.{◌+◌, refl, sym, subst, arith, length}
use Rattle.std.proofs.lemmas.Grind.{common_steps}
use Rattle.std.proofs.lemmas.List.{get_or_read_under}
use Rattle.side_by_side.specs.Places.{HoldsBelow}
use Rattle.side_by_side.proofs.Places.{holds_more}
use Rattle.side_by_side.proofs.task.results_in_turn.Goals as goal

pub loop-place-preserved : goal.loop-place-preserved
loop-place-preserved g c =
    let gives = g.T.Task.Gives c.args.task.now in
    let jobs = c.args.jobs.now in
    let i = c.loop-place.place in
    let job = c.index-jobs-place.result in
    let before = c.loop-place.invariant in record {
      count = grind (arith, common_steps);
      each = subst (HoldsBelow gives (i + 1) jobs) (sym c.in_ok-push.ensures.items)
          (holds_more gives jobs c.loop-place.found.items c.call.result i before.count before.each
          (λ a. subst (λ job. gives i job c.call.result)
          (get_or_read_under jobs i (length jobs) job a c.index-jobs-place.is c.loop-place-test.true refl)
          c.call.ensures));
    }
