-- By which rule an event is reported.
use Rattle.std.specs.Prelude.{ℕ, ◌+◌, ◌%◌, ◌==◌, ◌&&◌, ◌||◌, not, Bool, true, false, Option, Some, None, if◌then◌else◌}
use Rattle.std.specs.Prelude.{is_none}
use Rattle.retire.specs.Events.{privilege, is_retirement}
use Rattle.retire.specs.declared.event.Event.{Event}
use Rattle.retire.specs.declared.event.Event.TheVariants.{Retire, Trap}
use Rattle.rvclass.specs.Words.{Words}
use Rattle.legalpath.specs.Backward.{is_backward}
use Rattle.legalpath.specs.Discontinuity.{is_discontinuity}
use Rattle.encoder.specs.Spot.{Spot}
use Rattle.encoder.specs.declared.rule.Rule.{Rule}
use Rattle.encoder.specs.declared.rule.Rule.TheVariants as by

-- There is an event, and it passes the test.
abbrev pub is_some_and : (Event → Bool) → Option Event → Bool
is_some_and test None = false
is_some_and test (Some event) = test event

-- A trap between these events is reported with its handler (`thaddr`): the event before it is a retirement that is no
-- uninferable discontinuity, and the event after it is a retirement.
abbrev pub with_handler : Words → Option Event → Option Event → Bool
with_handler words before after =
    is_some_and is_retirement before && not (is_some_and (is_discontinuity words) before)
    && is_some_and is_retirement after

-- The event is a handler: the one before it is a trap that is reported with it.
abbrev pub is_handler : Words → Option Event → Option Event → Event → Bool
is_handler words before_that (Some (Trap priv interrupt cause epc tval)) event =
    with_handler words before_that (Some event)
is_handler words before_that before event = false

-- A retirement that is no handler, of this number and privilege, is a new start: it is the first event, follows a trap,
-- changes the privilege, or has a number that the period divides. The last of these is this project's profile of
-- periodic synchronisation.
abbrev pub is_start : ℕ → ℕ → Option Event → ℕ → Bool
is_start period number None priv = true
is_start period number (Some (Trap level interrupt cause epc tval)) priv = true
is_start period number (Some (Retire addr itype level)) priv = not (priv == level) || (number % period == 0)

-- After a retirement of this number comes a trap, or a new start.
abbrev pub is_cut_off : ℕ → ℕ → Event → Option Event → Bool
is_cut_off period number event None = false
is_cut_off period number event (Some (Trap priv interrupt cause epc tval)) = true
is_cut_off period number event (Some (Retire addr itype priv)) = is_start period (number + 1) (Some event) priv

-- The rule of a retirement: the first that applies, or `MapOrNothing` where none does. That a backward jump is notified
-- is this project's profile.
abbrev pub retirement_rule : Words → ℕ → Spot → Rule
retirement_rule words period spot =
    if is_handler words spot.before_that spot.before spot.event then by.Handler else
    if is_start period spot.number spot.before (privilege spot.event) then by.Sync else
    if is_some_and (is_discontinuity words) spot.before then by.Target
    (is_cut_off period spot.number spot.event spot.after) else
    if is_cut_off period spot.number spot.event spot.after || is_none spot.after then by.Explicit else
    if is_backward words spot.event then by.Notify else
    by.MapOrNothing

-- The rule of the event at a spot.
abbrev pub rule : Words → ℕ → Spot → Rule
rule words period spot =
    if is_retirement spot.event then retirement_rule words period spot else by.Trap
    (with_handler words spot.before spot.after)
