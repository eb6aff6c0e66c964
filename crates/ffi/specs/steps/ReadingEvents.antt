-- Numbers as an event, if any has them.
use Rattle.std.specs.Prelude.{ℕ, ◌==◌, ◌&&◌, Bool, not, if◌then◌else◌, Option, Some, None}
use Rattle.retire.specs.declared.event.Event.{Event}
use Rattle.retire.specs.declared.event.Event.TheVariants.{Retire, Trap}
use Rattle.ffi.specs.declared.events.EventNumbers.{EventNumbers}
use Rattle.ffi.specs.declared.events.TheConstants.{RETIREMENT}

-- The event that has these numbers, if any has.
abbrev pub event_in : EventNumbers → Event
event_in numbers =
    if numbers.kind == RETIREMENT then Retire numbers.address numbers.itype numbers.privilege else
    Trap numbers.privilege (not (numbers.interrupt == 0)) numbers.cause numbers.address numbers.tval

-- The event that has these numbers, if any has, where there is one by this flag.
abbrev pub event_if_any : ℕ → EventNumbers → Option Event
event_if_any there numbers = if there == 0 then None else Some (event_in numbers)

-- Whether what a retirement does not have is 0.
abbrev pub is_retirement_read : EventNumbers → Bool
is_retirement_read numbers = (numbers.cause == 0) && ((numbers.interrupt == 0) && (numbers.tval == 0))
