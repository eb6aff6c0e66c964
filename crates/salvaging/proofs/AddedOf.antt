-- How many events there are, and the places of the first and of the last of them.
use Rattle.std.proofs.Common.{◌≡◌, ◌≤◌, ◌-◌, ℕ, List, [], ◌∷◌, get_or, length, refl, ap, ◌∙◌, arith}
use Rattle.retire.specs.Events.{place}
use Rattle.retire.specs.declared.event.Event.{Event}
use Rattle.legalpath.specs.LastPlace.{last_place}
use Rattle.salvaging.specs.Treatments.{added_of}
use Rattle.salvaging.specs.declared.treatment.Added.{Added}

last_is : (event : Event) (rest : List Event) (d : Event)
    → place (get_or (event ∷ rest) (length rest) d) ≡ last_place (place event) rest
last_is event [] d = refl
last_is event (next ∷ rest) d = last_is next rest d

abbrev made : ℕ → ℕ → ℕ → Added
made count first last = record { count = count; first = first; last = last }

pub added_is : (events : List Event) (d e : Event) (first last : ℕ) → 1 ≤ length events
    → first ≡ place (get_or events 0 d) → last ≡ place (get_or events (length events - 1) e)
    → made (length events) first last ≡ added_of events
added_is [] d e first last some is end = absurd (omega (arith, some))
added_is (event ∷ rest) d e first last some is end =
    let back : length (event ∷ rest) - 1 ≡ length rest = omega arith in
    let at = end ∙ ap (λ k. place (get_or (event ∷ rest) k e)) back ∙ last_is event rest e in
    ap (λ n. made (length (event ∷ rest)) n last) is ∙ ap (made (length (event ∷ rest)) (place event)) at
