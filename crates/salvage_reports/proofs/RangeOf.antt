-- The places of a stretch's first event and of its last.
use Rattle.std.proofs.Common.{◌≡◌, ◌≤◌, ◌-◌, ℕ, List, [], ◌∷◌, Some, get_or, length, refl, ap, ◌∙◌, arith}
use Rattle.retire.specs.Events.{place}
use Rattle.retire.specs.declared.event.Event.{Event}
use Rattle.legalpath.specs.LastPlace.{last_place}
use Rattle.salvage_reports.specs.StretchEnds.{behind_text, range_text}

last_is : (event : Event) (rest : List Event) (d : Event)
    → place (get_or (event ∷ rest) (length rest) d) ≡ last_place (place event) rest
last_is event [] d = refl
last_is event (next ∷ rest) d = last_is next rest d

pub range_is : (file : List ℕ) (events : List Event) (d e : Event) (first last : ℕ) → 1 ≤ length events
    → first ≡ place (get_or events 0 d) → last ≡ place (get_or events (length events - 1) e)
    → range_text file first last ≡ behind_text (Some file) events
range_is file [] d e first last some is end = absurd (omega (arith, some))
range_is file (event ∷ rest) d e first last some is end =
    let back : length (event ∷ rest) - 1 ≡ length rest = omega arith in
    let at = end ∙ ap (λ k. place (get_or (event ∷ rest) k e)) back ∙ last_is event rest e in
    ap (λ n. range_text file n last) is ∙ ap (range_text file (place event)) at
