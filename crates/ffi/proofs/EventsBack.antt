-- An event comes back from its numbers.
use Rattle.std.proofs.Common.{◌≡◌, Option, Some, None, is_some, refl, ap}
use Rattle.retire.specs.declared.event.Event.{Event}
use Rattle.retire.specs.declared.event.Event.TheVariants.{Retire, Trap}
use Rattle.ffi.proofs.PacketsBack.{flag_back}
use Rattle.ffi.specs.Events.{numbers_if_any, numbers_of_event}
use Rattle.ffi.specs.Numbers.{flag}
use Rattle.ffi.specs.steps.ReadingEvents.{event_if_any, event_in}

pub event_back : (e : Event) → event_in (numbers_of_event e) ≡ e
event_back (Retire addr itype privilege) = refl
event_back (Trap privilege interrupt cause epc tval) =
    ap (λ taken. Trap privilege taken cause epc tval) (flag_back interrupt)

-- So does one that may be missing.
pub event_if_any_back : (e : Option Event) → event_if_any (flag (is_some e)) (numbers_if_any e) ≡ e
event_if_any_back None = refl
event_if_any_back (Some e) = ap Some (event_back e)
