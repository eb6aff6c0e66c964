-- The greatest of the counts so far.
use Rattle.std.proofs.Common.{take}
use Rattle.salvaging.specs.steps.Farness.{IsGreatestUpTo}
use Rattle.salvaging.proofs.far.greatest_upto.Given as goal

abbrev pub invariant-loop-count : goal.invariant-loop-count
invariant-loop-count l = IsGreatestUpTo (take l.count-index l.counts) l.limit l.most
