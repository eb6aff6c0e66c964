-- Some messages of SENT were read, and none of them is the one that is looked for.
use Rattle.std.proofs.Common.{ℕ, ◌≤◌}
use Rattle.live.specs.Auditing.{GoesTo, Stands}
use Rattle.live.specs.Course.{moves_near}
use Rattle.live.specs.Following.{Audited, IsAudited, WasAsked}
use Rattle.live.specs.Live.{State}
use Rattle.live.specs.steps.Advancing.{NoneBefore}
use Rattle.live.proofs.live_audit.LiveAudit.read_on.Given as goal

abbrev pub invariant-loop : goal.invariant-loop
invariant-loop g l =
    (all : Audited) (read asked : ℕ) (state : State) → IsAudited all
    → Stands all read state l.fn.self (g.S.SentSource.left l.fn.source) → WasAsked all asked read
    → NoneBefore all read l.fn.hart l.fn.number
    → (now : ℕ)
    × GoesTo all now (λ told. g.L.LiveLines.Told l.fn.lines told l.lines) (moves_near all now state) l.self
    (g.S.SentSource.left l.source)
    × NoneBefore all now l.fn.hart l.fn.number × (read ≤ now)
