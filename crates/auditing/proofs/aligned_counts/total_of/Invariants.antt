-- The sums are those of the first harts, and not too great.
use Rattle.std.proofs.Common.{◌≡◌, take}
use Rattle.auditing.specs.Counted.{total_of}
use Rattle.auditing.specs.steps.Summing.{HasFew}
use Rattle.auditing.proofs.aligned_counts.total_of.Given as goal

abbrev pub invariant-loop-hart : goal.invariant-loop-hart
invariant-loop-hart g l = (l.total ≡ total_of (take l.hart l.all)) × HasFew l.hart l.total
