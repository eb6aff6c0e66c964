-- Which tasks may end at an illegal log.
use Rattle.std.specs.Prelude.{⊤}
use Rattle.log_streams.specs.declared.stop.Stop.{Stop}
use Rattle.log_streams.specs.declared.stop.Stop.TheVariants as stop

-- This may be why nothing is made of a log. An illegal log is a reason only where the task may refuse one.
abbrev pub MayStop : Type 0 → Stop → Type 0
MayStop MayRefuse (stop.Unread why) = ⊤
MayStop MayRefuse (stop.Illegal fault) = MayRefuse
