-- What a file says of what was made of its log.
use Rattle.std.specs.Prelude.{⊤, Result, Ok, Err}
use Rattle.retire.specs.declared.fault.LogFault.TheVariants.{Read}
use Rattle.log_streams.specs.declared.stop.Stop.{Stop}
use Rattle.log_streams.specs.declared.stop.Stop.TheVariants as stop

-- The file has ended, where its log was read to the end, and it failed, where that is why nothing is made of the log.
abbrev pub IsConfirmedBy : {X : Type 0} → Type 0 → Type 0 → Result X Stop → Type 0
IsConfirmedBy Ended Failed (Ok made) = Ended
IsConfirmedBy Ended Failed (Err (stop.Unread Read)) = Failed
IsConfirmedBy Ended Failed (Err (stop.Unread why)) = ⊤
IsConfirmedBy Ended Failed (Err (stop.Illegal fault)) = Ended
