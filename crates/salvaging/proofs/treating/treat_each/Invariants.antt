-- The messages before this one are treated.
use Rattle.std.proofs.Common.{◌≤◌, length}
use Rattle.std.specs.Vec.{vec_capacity}
use Rattle.salvaging.proofs.TreatedAll.{TreatedSo}
use Rattle.salvaging.proofs.treating.treat_each.Given as goal

abbrev pub invariant-loop-message : goal.invariant-loop-message
invariant-loop-message g l =
    TreatedSo l.harts l.messages l.sorted l.message-index l.counts.items l.treated.items
    × (length l.messages ≤ vec_capacity l.treated)
