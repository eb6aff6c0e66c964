-- The entries so far and one before them are a lemma on lists.
use Rattle.std.proofs.Common.{◌≡◌, refl, take}
use Rattle.salvaging.specs.Late.{counted}
use Rattle.salvaging.specs.steps.Arrivals.{arrivals_in}
use Rattle.salvaging.specs.steps.Grouping.{entries_by, entry_of}
use Rattle.salvaging.proofs.LateSteps.{late_before, late_if, none_late_if}
use Rattle.salvaging.proofs.late.late.Goals.{then-is_late_behind, else-is_late_behind}
use Rattle.salvaging.proofs.late.late.Goals as goal

pub loop-entry-preserved : goal.loop-entry-preserved
loop-entry-preserved c =
    let late = c.is_late_behind.result in
    let count = c.loop-entry.count in
    let new = c.if-is_late_behind.count in
    let new_is : new ≡ counted late count = elim c.if-is_late_behind.branch [
      | then-is_late_behind w ↦ late_if late count new w.if-is_late_behind.true w.count-is
      | else-is_late_behind w ↦ none_late_if late count new w.if-is_late_behind.false w.count-is
    ] in
    let rest = c.loop-entry.rest.now in
    let front = entries_by (arrivals_in (take c.in-Some.front rest)) in
    late_before (entries_by (arrivals_in c.args.came.now)) c.args.verdicts.now c.args.far.now c.requires.far count
    c.loop-entry.first (entries_by (arrivals_in rest)) c.loop-entry.at c.loop-entry.invariant front (entry_of c.in-Some.entry)
    c.in-Some.ensures.last _ _ refl _ _ refl c.is_good.result c.is_good.ensures c.is_believed-believed.result
    c.is_believed-believed.ensures late c.is_late_behind.ensures new new_is c.earliest_with-first.result
    c.earliest_with-first.ensures
