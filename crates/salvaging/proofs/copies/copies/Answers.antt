-- The copies so far and one message more are a lemma on lists.
use Rattle.std.proofs.Common.{◌≡◌}
use Rattle.salvaging.specs.steps.Grouping.{one_more}
use Rattle.salvaging.proofs.CountedCopies.{copies_end, copies_more, more_if, none_more_if}
use Rattle.salvaging.proofs.copies.copies.Goals.{then-are_alike, else-are_alike}
use Rattle.salvaging.proofs.copies.copies.Goals as goal

pub loop-at-preserved : goal.loop-at-preserved
loop-at-preserved c =
    let alike = c.are_alike.result in
    let new = c.if-are_alike.count in
    let new_is : new ≡ one_more alike c.loop-at.count = elim c.if-are_alike.branch [
      | then-are_alike w ↦ more_if alike c.loop-at.count new w.if-are_alike.true w.count-is
      | else-are_alike w ↦ none_more_if alike c.loop-at.count new w.if-are_alike.false w.count-is
    ] in
    copies_more c.args.came.now c.loop-at.count c.loop-at.at c.loop-at.invariant c.loop-at-test.true
    c.index-came-at.result c.index-came-at-in-loop-at.result c.index-came-at.is c.index-came-at-in-loop-at.is
    alike c.are_alike.ensures new new_is

pub returns : goal.returns
returns c = copies_end c.args.came.now _ _ c.loop-at.invariant c.loop-at-test.false
