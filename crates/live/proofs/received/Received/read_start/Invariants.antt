-- The same bytes are left so far.
use Rattle.std.proofs.Common.{◌≡◌, ℕ, List}
use Rattle.live.specs.ReceivedLeft.{IsLeft}
use Rattle.live.proofs.received.Received.read_start.Given as goal

abbrev pub invariant-loop : goal.invariant-loop
invariant-loop g l = (l.self.harts ≡ l.initial.self.harts) × (l.self.offset ≡ l.initial.self.offset)
    × ((rest : List ℕ) → IsLeft l.initial.self (g.R.FileReader.left l.initial.reader) rest
    → IsLeft l.self (g.R.FileReader.left l.reader) rest)
    × (l.self.most ≡ l.initial.self.most)
