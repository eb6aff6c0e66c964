-- The messages before this place are looked at.
use Rattle.salvaging.proofs.CountedCopies.{CopiesSo}
use Rattle.salvaging.proofs.copies.copies.Given as goal

abbrev pub invariant-loop-at : goal.invariant-loop-at
invariant-loop-at l = CopiesSo l.came l.count l.at
