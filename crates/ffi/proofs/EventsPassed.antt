-- The numbers of events are checked one after the other.
use Rattle.std.proofs.Common.{◌≡◌, ℕ, ◌+◌, ◌<◌, List, ◌∷◌, [], ◌++◌, drop, length, map, slice_index_or, take}
use Rattle.std.proofs.Common.{refl, sym, ap, ◌∙◌, append_assoc}
use Rattle.std.proofs.lemmas.List.{map-append, take-append-drop, take_more}
use Rattle.legalpath.specs.FirstFault.{IsFirstFault}
use Rattle.legalpath.specs.Passed.{HasPassed, Passed}
use Rattle.legalpath.specs.declared.fault.PathFault.{PathFault}
use Rattle.retire.specs.declared.event.Event.{Event}
use Rattle.rvclass.specs.Words.{Words}
use Rattle.ffi.specs.Events.{AreOfEvent, numbers_of_event}
use Rattle.ffi.specs.EventsChecked.{IsIllegalAt, IsNoEventAt}
use Rattle.ffi.specs.declared.events.EventNumbers.{EventNumbers}

-- The first events have passed a check.
pub record ArePassed (words : Words) (numbers : List EventNumbers) (place : ℕ) (path : Passed) : Type 0 where
  pub log : List Event
  pub front : take place numbers ≡ map numbers_of_event log
  pub counted : length log ≡ place
  pub passed : HasPassed words log path

module _ (words : Words) (numbers : List EventNumbers) where
  -- None has.
  pub passed_none : (path : Passed) → HasPassed words [] path → ArePassed words numbers 0 path
  passed_none path none = record { log = []; front = refl; counted = refl; passed = none }

  -- The events with one more.
  next_front : (place : ℕ) (one : EventNumbers) (log : List Event) (event : Event) → place < length numbers
      → slice_index_or numbers place one ≡ numbers_of_event event → take place numbers ≡ map numbers_of_event log
      → take (place + 1) numbers ≡ map numbers_of_event (log ++ event ∷ [])
  next_front place one log event within is front =
      take_more numbers place one within
      ∙ ap (λ n. take place numbers ++ n ∷ []) is
      ∙ ap (λ ns. ns ++ numbers_of_event event ∷ []) front
      ∙ sym (map-append numbers_of_event log (event ∷ []))

  -- The next numbers are those of no event.
  pub none_at : (place : ℕ) (path : Passed) (one : EventNumbers) → place < length numbers
      → ¬ AreOfEvent (slice_index_or numbers place one) → ArePassed words numbers place path
      → IsNoEventAt words numbers (place + 1)
  none_at place path one within none before = record {
    front = before.log;
    one = slice_index_or numbers place one;
    rest = drop (place + 1) numbers;
    whole = sym (take-append-drop (place + 1) numbers)
        ∙ ap (λ ns. ns ++ drop (place + 1) numbers) (take_more numbers place one within)
        ∙ append_assoc (take place numbers) (slice_index_or numbers place one ∷ []) (drop (place + 1) numbers)
        ∙ ap (λ ns. ns ++ slice_index_or numbers place one ∷ drop (place + 1) numbers) before.front;
    legal = before.passed.legal;
    none = none;
    counted = ap (λ n. n + 1) (sym before.counted);
  }

  -- The next event is illegal.
  pub illegal_at : (place : ℕ) (path : Passed) (one : EventNumbers) (event : Event) (fault : PathFault)
      → place < length numbers → slice_index_or numbers place one ≡ numbers_of_event event
      → (before : ArePassed words numbers place path) → IsFirstFault words (before.log ++ event ∷ []) fault
      → IsIllegalAt words numbers fault
  illegal_at place path one event fault within is before first = record {
    log = before.log ++ event ∷ [];
    rest = drop (place + 1) numbers;
    whole = sym (take-append-drop (place + 1) numbers)
        ∙ ap (λ ns. ns ++ drop (place + 1) numbers) (next_front place one before.log event within is before.front);
    first = first;
  }
