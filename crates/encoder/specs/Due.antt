-- What is known of the rule of a log's last event before it is known what follows: what is due for the event.
use Rattle.std.specs.Prelude.{ℕ, ◌&&◌, not, List, Option, Some, None, if◌then◌else◌}
use Rattle.std.specs.List.{last_or}
use Rattle.retire.specs.Events.{privilege, is_retirement}
use Rattle.retire.specs.declared.event.Event.{Event}
use Rattle.rvclass.specs.Words.{Words}
use Rattle.legalpath.specs.Discontinuity.{is_discontinuity}
use Rattle.encoder.specs.Rule.{is_some_and, is_handler, is_start}
use Rattle.encoder.specs.Spot.{Spot, spots_of}
use Rattle.encoder.specs.declared.due.Due.{Due}
use Rattle.encoder.specs.declared.due.Due.TheVariants as due

-- What is due for the event at a spot, whatever follows it.
abbrev pub due_at : Words → ℕ → Spot → Due
due_at words period spot =
    if is_retirement spot.event then
    (if is_handler words spot.before_that spot.before spot.event then due.Handler else
    if is_start period spot.number spot.before (privilege spot.event) then due.Sync else
    if is_some_and (is_discontinuity words) spot.before then due.Target else
    due.Nothing)
    else
    (if is_some_and is_retirement spot.before && not (is_some_and (is_discontinuity words) spot.before)
    then due.TrapOrHandler else
    due.Trap)

-- What is due at the last spot. Nothing is due where there is none.
abbrev pub due_at_last : Words → ℕ → Option Spot → Due
due_at_last words period None = due.Nothing
due_at_last words period (Some spot) = due_at words period spot

-- What is due for the last event of a log.
abbrev pub due_of_last : Words → ℕ → List Event → Due
due_of_last words period log = due_at_last words period (last_or None (spots_of log))
