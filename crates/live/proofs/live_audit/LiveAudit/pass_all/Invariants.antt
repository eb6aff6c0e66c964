-- The front went on by some of the messages.
use Rattle.std.proofs.Common.{ℕ, ◌+◌, ◌≤◌, drop, take}
use Rattle.live.specs.Auditing.{GoesTo, Stands}
use Rattle.live.specs.Following.{Audited, IsAudited, Left}
use Rattle.live.specs.Live.{State, passes_all}
use Rattle.live.proofs.live_audit.LiveAudit.pass_all.Given as goal

abbrev pub invariant-loop : goal.invariant-loop
invariant-loop g l =
    (all : Audited) (read : ℕ) (state : State) (left : Left) → IsAudited all
    → Stands all read state l.fn.self left → state.front + l.fn.count ≤ read
    → GoesTo all read (λ told. g.L.LiveLines.Told l.fn.lines told l.lines)
    (passes_all all.window all.sent state (take l.counter (drop state.front all.sent))) l.self left
