-- Parts that the code puts behind others.
use Rattle.std.proofs.Common.{◌≡◌, ◌<◌, ℕ, zero, suc, ◌+◌, ◌-◌, List, [], ◌∷◌, ◌++◌}
use Rattle.std.proofs.Common.{append_assoc, refl, sym, ap, subst, ◌∙◌, arith}
use Rattle.std.proofs.lemmas.List.{map-append}
use Rattle.std.specs.Prelude.{◌≢◌}
use Rattle.retire.specs.declared.event.Event.{Event}
use Rattle.salvaging.specs.LeftParts.{LeftPart, Missing, Events, gap, stretch}
use Rattle.salvaging.specs.PartsIn.{part_of, parts_in}
use Rattle.salvaging.specs.steps.UnderWay.{AddsParts}
use Rattle.salvaging.specs.declared.part.Part.{Part}

-- Nothing is below 0.
nothing_below : ¬ (0 < 0)
nothing_below some = omega (arith, some)

-- A stretch with an event is one part.
stretch_some : (next count : ℕ) (events : List Event) → events ≢ []
    → stretch next count events ≡ Events (next - count) (next - 1) events ∷ []
stretch_some next count [] some = absurd (some refl)
stretch_some next count (event ∷ events) some = refl

module _ {A : Type 0} where
  -- A part.
  pub adds_part : (xs ys : List (Part A)) (new : Part A) → ys ≡ xs ++ new ∷ [] → AddsParts (part_of new ∷ []) xs ys
  adds_part xs ys new is = ap parts_in is ∙ map-append part_of xs (new ∷ [])

  -- A stretch that has an event.
  pub adds_stretch : (xs ys : List (Part A)) (new : Part A) (next count first last : ℕ) (events : List Event)
      → ys ≡ xs ++ new ∷ [] → part_of new ≡ Events first last events → first + count ≡ next → last ≡ next - 1
      → events ≢ [] → AddsParts (stretch next count events) xs ys
  adds_stretch xs ys new next count first last events is shown at end some =
      let begins : first ≡ next - count = omega (arith, at) in
      let all : part_of new ∷ [] ≡ stretch next count events =
      ap (λ p. p ∷ []) shown ∙ ap (λ n. Events n last events ∷ []) begins
      ∙ ap (λ n. Events (next - count) n events ∷ []) end ∙ sym (stretch_some next count events some) in
      subst (λ l. AddsParts l xs ys) all (adds_part xs ys new is)

  -- A gap.
  pub adds_gap : (xs ys : List (Part A)) (new : Part A) (lost : ℕ) → ys ≡ xs ++ new ∷ []
      → part_of new ≡ Missing lost → 0 < lost → AddsParts (gap lost) xs ys
  adds_gap xs ys new zero is shown some = absurd (nothing_below some)
  adds_gap xs ys new (suc lost) is shown some =
      subst (λ p. AddsParts (p ∷ []) xs ys) shown (adds_part xs ys new is)

  pub adds_both : (a b : List LeftPart) (xs ys zs : List (Part A)) → AddsParts a xs ys → AddsParts b ys zs
      → AddsParts (a ++ b) xs zs
  adds_both a b xs ys zs first second = second ∙ ap (λ l. l ++ b) first ∙ append_assoc (parts_in xs) a b
