-- The last event of a list.
use Rattle.std.proofs.Common.{◌≡◌, ◌-◌, List, [], ◌∷◌, Option, Some, length, sym, suc, arith}
use Rattle.std.specs.List.{last_or, slice_get}
use Rattle.retire.specs.declared.event.Event.{Event}

-- It is at the last place.
pub last_or-place : (before : Option Event) (events : List Event) (last : Event)
    → Some last ≡ slice_get events (length events - 1) → last_or before events ≡ Some last
last_or-place before [] last e = cc e
last_or-place before (event ∷ []) last e = sym e
last_or-place before (event ∷ next ∷ events) last e =
    let place : length (event ∷ next ∷ events) - 1 ≡ suc (length (next ∷ events) - 1) = omega arith in
    last_or-place (Some event) (next ∷ events) last (rw place at e)
