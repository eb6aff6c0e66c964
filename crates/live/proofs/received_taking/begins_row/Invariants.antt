-- Messages are in a row so far.
use Rattle.std.proofs.Common.{ℕ, List}
use Rattle.message.specs.declared.message.Message.{Message}
use Rattle.live.specs.Following.{Audited, IsAudited, Reads}
use Rattle.live.specs.ReceivedLeft.{Follows, most_sought, rule_of}
use Rattle.live.proofs.ReceivedRows.{Placed, RowGoes}
use Rattle.live.proofs.received_taking.begins_row.Given as goal

abbrev pub invariant-loop-count : goal.invariant-loop-count
invariant-loop-count g l = Placed l.bytes l.at l.count
    × ((all : Audited) (came : List Message) (front first : ℕ) → IsAudited all
    → Reads all first came front l.fn.window (g.S.SentSource.left l.fn.source)
    → Follows all came front first l.bytes (most_sought l.harts) l.window (g.S.SentSource.left l.source)
    × RowGoes (rule_of l.harts all front) l.bytes l.at l.count)
