use Rattle.std.proofs.Common.{◌≡◌}
use Rattle.stimulus.specs.Order.{weighed}
use Rattle.stimulus.proofs.order.weighed.Given as goal

-- The harts below this one are listed.
abbrev pub invariant-loop-hart : goal.invariant-loop-hart
invariant-loop-hart g l = (l.listed.items, l.random) ≡ weighed l.fn.random l.hart
