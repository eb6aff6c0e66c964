-- Events as numbers.
use Rattle.std.specs.Prelude.{◌≡◌, Option, Some, None}
use Rattle.retire.specs.declared.event.Event.{Event}
use Rattle.retire.specs.declared.event.Event.TheVariants.{Retire, Trap}
use Rattle.ffi.specs.Numbers.{flag}
use Rattle.ffi.specs.declared.events.EventNumbers.{EventNumbers}
use Rattle.ffi.specs.declared.events.TheConstants.{RETIREMENT, TRAP_TAKEN}

-- The numbers of an event.
abbrev pub numbers_of_event : Event → EventNumbers
numbers_of_event (Retire addr itype privilege) = record {
  kind = RETIREMENT;
  itype = itype;
  privilege = privilege;
  cause = 0;
  interrupt = 0;
  address = addr;
  tval = 0;
}
numbers_of_event (Trap privilege interrupt cause epc tval) = record {
  kind = TRAP_TAKEN;
  itype = 0;
  privilege = privilege;
  cause = cause;
  interrupt = flag interrupt;
  address = epc;
  tval = tval;
}

-- The numbers of an event, if there is one. Else all are 0.
abbrev pub numbers_if_any : Option Event → EventNumbers
numbers_if_any None =
    record { kind = 0; itype = 0; privilege = 0; cause = 0; interrupt = 0; address = 0; tval = 0 }
numbers_if_any (Some event) = numbers_of_event event

-- Numbers are those of an event.
abbrev pub AreOfEvent : EventNumbers → Type 0
AreOfEvent numbers = (event : Event) × (numbers ≡ numbers_of_event event)
