-- One event more is read from numbers.
use Rattle.std.proofs.Common.{◌≡◌, ℕ, ◌+◌, ◌<◌, List, ◌∷◌, [], ◌++◌, length, map, take, slice_index_or, sym, ap, ◌∙◌}
use Rattle.std.specs.Prelude.{slice_set}
use Rattle.std.proofs.lemmas.List.{map-append, take_more, take_more_set}
use Rattle.retire.specs.declared.event.Event.{Event}
use Rattle.ffi.specs.Events.{numbers_of_event}
use Rattle.ffi.specs.declared.events.EventNumbers.{EventNumbers}

pub read_more : (numbers : List EventNumbers) (block : List Event) (place : ℕ) (one : EventNumbers) (event : Event)
    → place < length block → place < length numbers → slice_index_or numbers place one ≡ numbers_of_event event
    → map numbers_of_event (take place block) ≡ take place numbers
    → map numbers_of_event (take (place + 1) (slice_set block place event)) ≡ take (place + 1) numbers
read_more numbers block place one event room within is front =
    ap (map numbers_of_event) (take_more_set block place event room)
    ∙ map-append numbers_of_event (take place block) (event ∷ [])
    ∙ ap (λ ns. ns ++ numbers_of_event event ∷ []) front
    ∙ ap (λ n. take place numbers ++ n ∷ []) (sym is)
    ∙ sym (take_more numbers place one within)
