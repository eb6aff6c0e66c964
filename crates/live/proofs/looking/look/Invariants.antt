-- Some messages of SENT were read, each of which was wanted, and SENT is asked as often for those that are.
use Rattle.std.proofs.Common.{◌≡◌, ℕ, ◌+◌, ◌≤◌, List}
use Rattle.message.specs.declared.message.Message.{Message}
use Rattle.live.specs.Following.{AllWanted, Audited, IsAudited, Reads, looked_to}
use Rattle.live.proofs.looking.look.Given as goal

abbrev pub invariant-loop : goal.invariant-loop
invariant-loop g l =
    (all : Audited) (read : ℕ) (came : List Message) (front : ℕ) → IsAudited all
    → Reads all read came front l.fn.window (g.S.SentSource.left l.fn.source)
    → (now : ℕ) × Reads all now came front l.window (g.S.SentSource.left l.source) × (now ≡ read + l.counter)
    × AllWanted all read now front l.fn.hart l.fn.number
    × (looked_to all front l.fn.hart l.fn.number read ≡ looked_to all front l.fn.hart l.fn.number now)
    × (1 ≤ l.counter → all.window ≤ 16777216)
