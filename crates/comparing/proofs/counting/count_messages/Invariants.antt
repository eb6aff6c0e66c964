-- The messages so far are counted.
use Rattle.std.proofs.Common.{◌≤◌, ◌+◌, length}
use Rattle.comparing.proofs.CountedFronts.{HasCounted}
use Rattle.comparing.proofs.counting.count_messages.Given as goal

abbrev pub invariant-loop-message : goal.invariant-loop-message
invariant-loop-message g l = record {
  has : HasCounted l.fn.left l.left (length l.fn.counts.items) l.stop l.number l.counts.items;
  few : l.number + length l.left ≤ length l.fn.left;
}

abbrev pub decreases-loop-message : goal.decreases-loop-message
decreases-loop-message g l = length l.left
