-- The messages before this one are distributed.
use Rattle.std.proofs.Common.{◌≡◌, length, take}
use Rattle.salvaging.specs.steps.Distributing.{Distributes}
use Rattle.salvaging.proofs.distributing.distribute.Given as goal

abbrev pub invariant-loop-message : goal.invariant-loop-message
invariant-loop-message g l =
    (length l.lists.items ≡ l.harts) × Distributes (take l.message-index l.messages) l.lists.items
