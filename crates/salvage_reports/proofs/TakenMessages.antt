-- What a message adds, by its events and by their count and places.
use Rattle.std.proofs.Common.{◌≡◌, ◌++◌, ℕ, List, [], ◌∷◌, Option, ap, length, refl, ◌∙◌}
use Rattle.retire.specs.declared.event.Event.{Event}
use Rattle.listing.specs.EffectText.{added_text, places_text}
use Rattle.listing.specs.PacketEnding.{ending_text}
use Rattle.listing.specs.SettledRows.{shown_rows}
use Rattle.salvaging.specs.Treatments.{added_of}
use Rattle.salvage_reports.specs.Effects.{TakenHaveTheirEffect}

places_are : (symbols : Option (List ℕ)) (events : List Event)
    → places_text symbols (added_of events).count (added_of events).first (added_of events).last
    ≡ added_text symbols events
places_are symbols [] = refl
places_are symbols (event ∷ []) = refl
places_are symbols (event ∷ next ∷ rest) = refl

count_is : (events : List Event) → (added_of events).count ≡ length events
count_is [] = refl
count_is (event ∷ events) = refl

pub taken_have_their_effect : TakenHaveTheirEffect
taken_have_their_effect shows symbols read rows events =
    ap (λ text. text ++ (shown_rows shows rows (added_of events).count ++ ending_text read)) (places_are symbols events)
    ∙ ap (λ count. added_text symbols events ++ (shown_rows shows rows count ++ ending_text read)) (count_is events)
