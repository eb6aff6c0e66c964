-- Events by their count, and by the places of the first and of the last.
use Rattle.std.proofs.Common.{◌≡◌, ◌≤◌, ◌-◌, ◌++◌, ℕ, suc, List, [], ◌∷◌, Option, codes, get_or, length}
use Rattle.std.proofs.Common.{sym, ap, ap₂, ◌∙◌, arith}
use Rattle.std.specs.Fmt.{decimal}
use Rattle.retire.specs.Events.{place}
use Rattle.retire.specs.declared.event.Event.{Event}
use Rattle.listing.proofs.LastPlaces.{last_is}
use Rattle.listing.specs.EffectText.{added_text, place_text, places_text}

-- Several events, from this place to that one.
pub several_events : (symbols : Option (List ℕ)) (added : List Event) (from to : ℕ) (d e : Event)
    → from ≡ place (get_or added 0 d) → to ≡ place (get_or added (length added - 1) e) → 2 ≤ length added
    → places_text symbols (length added) from to ≡ added_text symbols added
several_events symbols [] from to d e first last several = absurd (omega (arith, several))
several_events symbols (event ∷ []) from to d e first last several = absurd (omega (arith, several))
several_events symbols (event ∷ next ∷ rest) from to d e first last several =
    let all = event ∷ next ∷ rest in
    let at : length all - 1 ≡ suc (length rest) = omega arith in
    ap₂ (λ from to. decimal (length all) ++ (codes " events, " ++ (place_text symbols from
    ++ (codes " to " ++ place_text symbols to)))) first
    (last ∙ ap (λ k. place (get_or all k e)) at ∙ sym (last_is next rest e))
