-- The first harts have their states.
use Rattle.std.proofs.Common.{◌≡◌, map, take}
use Rattle.auditing.specs.Arrivals.{start}
use Rattle.auditing.proofs.arrivals.cursors.Given as goal

abbrev pub invariant-loop-own : goal.invariant-loop-own
invariant-loop-own g l = l.cursors.items ≡ map start (take l.own-index l.all)
