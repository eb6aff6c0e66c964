-- The first harts were compared.
use Rattle.std.proofs.Common.{◌≡◌, take}
use Rattle.comparing.specs.Compared.{gots_by}
use Rattle.comparing.specs.Explained.{explained_harts}
use Rattle.comparing.specs.steps.Held.{count_in}
use Rattle.receiver.specs.Received.{events_in}
use Rattle.ffi.specs.steps.OfTexts.{AreTextsOf}
use Rattle.ffi.proofs.comparing_logs.compare_each.Given as goal

abbrev pub invariant-loop-place : goal.invariant-loop-place
invariant-loop-place l =
    AreTextsOf l.program l.logs (take l.place l.ends)
    (λ logs. l.said.items ≡ explained_harts 0
    (take l.place (gots_by (count_in l.counts) 0 (events_in l.outcome.harts.items) l.outcome.closed.items)) logs)
