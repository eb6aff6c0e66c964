use Rattle.std.proofs.Common.{◌≡◌, ◌++◌, replicate}
use Rattle.stimulus.proofs.order.add_hart.Given as goal

-- The hart was added so many times.
abbrev pub invariant-loop : goal.invariant-loop
invariant-loop g l = l.listed.items ≡ l.fn.listed.items ++ replicate l.counter l.hart
