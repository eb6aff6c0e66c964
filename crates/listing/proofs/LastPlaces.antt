-- The place of the last of several events.
use Rattle.std.proofs.Common.{◌≡◌, List, [], ◌∷◌, get_or, length, refl}
use Rattle.retire.specs.Events.{place}
use Rattle.retire.specs.declared.event.Event.{Event}
use Rattle.legalpath.specs.LastPlace.{last_place}

-- It is that of the event at the last place of the list.
pub last_is : (event : Event) (rest : List Event) (d : Event)
    → last_place (place event) rest ≡ place (get_or (event ∷ rest) (length rest) d)
last_is event [] d = refl
last_is event (next ∷ rest) d = last_is next rest d
