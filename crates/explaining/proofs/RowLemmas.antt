-- What a log has at the row of an event that is in it, and at the row before.
use Rattle.std.proofs.Common.{◌≡◌, ℕ, ◌+◌, ◌-◌, List, [], ◌∷◌, ◌++◌, Option, Some, None, length, arith, refl, sym}
use Rattle.std.proofs.Common.{ap, ◌∙◌, cond}
use Rattle.std.proofs.lemmas.Bool.{ne_eqb}
use Rattle.std.specs.List.{last_or, slice_get}
use Rattle.retire.specs.declared.event.Event.{Event}
use Rattle.rvclass.specs.Image.{Image}
use Rattle.legalpath.specs.declared.fault.PathFault.{PathFault}
use Rattle.explaining.specs.Explanation.{at_row, explained, explanation}
use Rattle.explaining.specs.StandsAt.{StandsAt}

slice_get-middle : (front : List Event) (event : Event) (rest : List Event)
    → slice_get (front ++ event ∷ rest) (length front) ≡ Some event
slice_get-middle [] event rest = refl
slice_get-middle (first ∷ front) event rest = slice_get-middle front event rest

slice_get-last : (first : Event) (front rest : List Event)
    → slice_get (first ∷ (front ++ rest)) (length front) ≡ last_or None (first ∷ front)
slice_get-last first [] rest = refl
slice_get-last first (second ∷ front) rest = slice_get-last second front rest

-- A row from 1 on has the event whose place from 0 on is one less.
at_row-place : (log : List Event) (row place : ℕ) → row ≡ place + 1 → at_row log row ≡ slice_get log place
at_row-place log row place is =
    let less : row - 1 ≡ place = omega (arith, is) in
    ap (λ is_none. cond is_none None (slice_get log (row - 1))) (ne_eqb row 0 (λ none. omega (arith, is, none)))
    ∙ ap (slice_get log) less

at_row-last : (front rest : List Event) → at_row (front ++ rest) (length front) ≡ last_or None front
at_row-last [] rest = refl
at_row-last (first ∷ front) rest =
    at_row-place (first ∷ (front ++ rest)) (length (first ∷ front)) (length front) (omega arith)
    ∙ slice_get-last first front rest

-- The line of a fault of a log is that of the event at its row and of the one before.
pub explanation-of_row : (symbols : Option (List ℕ)) (image : Image) (log : List Event) (before : Option Event)
    (event : Event) (fault : PathFault)
    → StandsAt log fault.row before event
    → explained symbols image before (Some event) fault.why ≡ explanation symbols image log fault
explanation-of_row symbols image log before event fault at =
    let number : fault.row - 1 ≡ length at.front = omega (arith, at.counted) in
    let here : at_row log fault.row ≡ Some event =
    at_row-place log fault.row (length at.front) at.counted
    ∙ ap (λ l. slice_get l (length at.front)) at.whole
    ∙ slice_get-middle at.front event at.rest in
    let last : at_row log (fault.row - 1) ≡ before =
    ap (at_row log) number
    ∙ ap (λ l. at_row l (length at.front)) at.whole
    ∙ at_row-last at.front (event ∷ at.rest)
    ∙ sym at.last in
    ap (λ b. explained symbols image b (Some event) fault.why) (sym last)
    ∙ ap (λ e. explained symbols image (at_row log (fault.row - 1)) e fault.why) (sym here)
