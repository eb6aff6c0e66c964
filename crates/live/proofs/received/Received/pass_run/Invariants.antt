-- So many bytes of the run were passed over, and it goes on.
use Rattle.std.proofs.Common.{◌≡◌, ◌≤◌, ◌<◌, ◌+◌, ◌^◌, ℕ, List, drop, length}
use Rattle.message.specs.declared.message.Message.{Message}
use Rattle.live.specs.Following.{Audited, IsAudited, Reads}
use Rattle.live.specs.ReceivedLeft.{Follows, IsLeft, most_sought, rule_of}
use Rattle.live.proofs.ReceivedRuns.{RunGoes}
use Rattle.live.proofs.received.Received.pass_run.Given as goal

abbrev pub invariant-loop : goal.invariant-loop
invariant-loop g l = (l.self.harts ≡ l.initial.self.harts) × (1 ≤ length l.self.bytes)
    × ((all : Audited) (came : List Message) (front first : ℕ) (rest : List ℕ) → IsAudited all
    → Reads all first came front l.initial.window (g.S.SentSource.left l.initial.source)
    → IsLeft l.initial.self (g.R.FileReader.left l.initial.reader) rest
    → l.initial.self.offset + length rest < 2 ^ 64
    → Follows all came front first rest (l.count + most_sought l.initial.self.harts) l.window (g.S.SentSource.left l.source)
    × IsLeft l.self (g.R.FileReader.left l.reader) (drop l.count rest)
    × RunGoes (rule_of l.self.harts all front) rest l.count
    × (l.self.offset ≡ l.initial.self.offset + l.count) × (l.count ≤ length rest))
    × (l.self.most ≡ l.initial.self.most)
