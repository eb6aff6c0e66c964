-- The same bytes are left so far.
use Rattle.std.proofs.Common.{◌≡◌, ℕ, List}
use Rattle.message.specs.declared.message.Message.{Message}
use Rattle.live.specs.Following.{Audited, IsAudited, Reads}
use Rattle.live.specs.ReceivedLeft.{Follows, IsLeft, most_sought}
use Rattle.live.proofs.received.Received.is_taken.Given as goal

abbrev pub invariant-loop : goal.invariant-loop
invariant-loop g l = (l.self.harts ≡ l.initial.self.harts) × (l.self.offset ≡ l.initial.self.offset)
    × ((all : Audited) (came : List Message) (front first : ℕ) (rest : List ℕ) → IsAudited all
    → Reads all first came front l.initial.window (g.S.SentSource.left l.initial.source)
    → IsLeft l.initial.self (g.R.FileReader.left l.initial.reader) rest
    → Follows all came front first rest (most_sought l.initial.self.harts) l.window (g.S.SentSource.left l.source)
    × IsLeft l.self (g.R.FileReader.left l.reader) rest)
    × (l.self.most ≡ l.initial.self.most)
