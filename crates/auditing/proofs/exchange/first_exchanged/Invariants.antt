-- The first is one of those left.
use Rattle.std.proofs.Common.{◌≡◌, drop}
use Rattle.auditing.specs.Exchanged.{first_exchanged}
use Rattle.auditing.proofs.exchange.first_exchanged.Given as goal

abbrev pub invariant-loop-hart : goal.invariant-loop-hart
invariant-loop-hart l =
    first_exchanged 0 l.untrue l.counts ≡ first_exchanged l.hart l.untrue (drop l.hart l.counts)
