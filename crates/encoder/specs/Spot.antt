-- The events of a log at their places.
use Rattle.std.specs.Prelude.{ℕ, ◌+◌, List, [], ◌∷◌, Option, Some, None}
use Rattle.retire.specs.declared.event.Event.{Event}
use Rattle.retire.specs.declared.event.Event.TheVariants.{Retire, Trap}

-- An event at its place in its log: how many retirements come before it, the two events before it, and the event after
-- it.
pub record Spot : Type 0 where
  pub number : ℕ
  pub before_that : Option Event
  pub before : Option Event
  pub event : Event
  pub after : Option Event

-- The first of these events, or else this one.
abbrev pub first_event : List Event → Option Event → Option Event
first_event [] next = next
first_event (event ∷ events) next = Some event

-- How many retirements there are up to this event, where this many come before it. A trap is no retirement.
abbrev pub count_with : ℕ → Event → ℕ
count_with number (Retire addr itype priv) = number + 1
count_with number (Trap priv interrupt cause epc tval) = number

-- The spot of each of these events. This many retirements and these two events come before them, and the event `next`
-- after them.
abbrev pub spots : ℕ → Option Event → Option Event → List Event → Option Event → List Spot
spots number before_that before [] next = []
spots number before_that before (event ∷ events) next =
    record {
      number = number;
      before_that = before_that;
      before = before;
      event = event;
      after =
          first_event events next;
    }
    ∷ spots (count_with number event) before (Some event) events next

-- The spot of each event of a log, its retirements numbered from 0.
abbrev pub spots_of : List Event → List Spot
spots_of log = spots 0 None None log None
