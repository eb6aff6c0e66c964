-- The place of the last of some events.
use Rattle.std.proofs.Common.{◌≡◌, ◌≤◌, ◌-◌, ℕ, List, [], ◌∷◌, Some, get_or, length, sym, ap, ◌∙◌, arith}
use Rattle.retire.specs.Events.{place}
use Rattle.retire.specs.declared.event.Event.{Event}
use Rattle.listing.proofs.LastPlaces.{last_is}
use Rattle.listing.specs.Rows.{last_of}

-- It is that of the event at the last place of the list.
pub last_of_is : (added : List Event) (to : ℕ) (e : Event) → to ≡ place (get_or added (length added - 1) e)
    → 1 ≤ length added → Some to ≡ last_of added
last_of_is [] to e last some = absurd (omega (arith, some))
last_of_is (event ∷ rest) to e last some =
    let at : length (event ∷ rest) - 1 ≡ length rest = omega arith in
    ap Some (last ∙ ap (λ k. place (get_or (event ∷ rest) k e)) at ∙ sym (last_is event rest e))
