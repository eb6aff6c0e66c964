-- The text of ranges, one by one.
use Rattle.std.proofs.Common.{◌≡◌, ℕ, ◌-◌, ◌++◌, ◌==◌, if◌then◌else◌, List, [], ◌∷◌, length, refl, sym, ap, ◌∙◌, arith}
use Rattle.std.proofs.Common.{Some, false, append_assoc}
use Rattle.std.proofs.lemmas.Bool.Decides.{nat_tests}
use Rattle.std.specs.Fmt.{decimal}
use Rattle.std.specs.List.{slice_get}
use Rattle.std.specs.Prelude.{codes}
use Rattle.explaining.specs.Ranges.{range_text, ranges_text, rest_text}
use Rattle.explaining.specs.declared.ranges.Range.{Range}
use Rattle.explaining.specs.steps.RangeTexts.{more_text, next_text}

one : (range : Range) (rest : List ℕ) → codes ", " ++ (range_text range ++ rest) ≡ next_text (Some range) ++ rest
one range rest = sym (append_assoc (codes ", ") (range_text range) rest)

pub rest_is : (ranges : List Range) → rest_text 3 ranges
    ≡ next_text (slice_get ranges 0) ++ (next_text (slice_get ranges 1) ++ (next_text (slice_get ranges 2)
    ++ more_text (length ranges - 3)))
rest_is [] = refl
rest_is (a ∷ []) = one a []
rest_is (a ∷ b ∷ []) = one a (rest_text 2 (b ∷ [])) ∙ ap (λ l. next_text (Some a) ++ l) (one b [])
rest_is (a ∷ b ∷ c ∷ []) =
    one a (rest_text 2 (b ∷ c ∷ [])) ∙ ap (λ l. next_text (Some a) ++ l)
    (one b (rest_text 1 (c ∷ [])) ∙ ap (λ l. next_text (Some b) ++ l) (one c []))
rest_is (a ∷ b ∷ c ∷ d ∷ ds) =
    one a (rest_text 2 (b ∷ c ∷ d ∷ ds)) ∙ ap (λ l. next_text (Some a) ++ l)
    (one b (rest_text 1 (c ∷ d ∷ ds)) ∙ ap (λ l. next_text (Some b) ++ l)
    (one c (rest_text 0 (d ∷ ds)) ∙ ap (λ l. next_text (Some c) ++ l) last))
  where
    last : rest_text 0 (d ∷ ds) ≡ more_text (length (a ∷ b ∷ c ∷ d ∷ ds) - 3)
    last =
        let count : length (a ∷ b ∷ c ∷ d ∷ ds) - 3 ≡ length (d ∷ ds) = omega arith in
        let some : (length (d ∷ ds) == 0) ≡ false = grind (arith, nat_tests) in
        sym (ap more_text count
        ∙ ap (λ b. if b then [] else codes ", and " ++ (decimal (length (d ∷ ds)) ++ codes " more")) some)

-- The text of ranges of which there is one.
pub image_is : (ranges : List Range) (range : Range) → slice_get ranges 0 ≡ Some range
    → codes "the image is " ++ (range_text range ++ (next_text (slice_get ranges 1) ++ (next_text (slice_get ranges 2)
    ++ (next_text (slice_get ranges 3) ++ more_text (length ranges - 4))))) ≡ ranges_text ranges
image_is [] range is = cc
image_is (first ∷ rest) range is =
    let less : length (first ∷ rest) - 4 ≡ length rest - 3 = omega arith in
    let same : range ≡ first = cc in
    (λ i. codes "the image is " ++ (range_text (same i) ++ (next_text (slice_get rest 0)
    ++ (next_text (slice_get rest 1) ++ (next_text (slice_get rest 2) ++ more_text (less i))))))
    ∙ ap (λ l. codes "the image is " ++ (range_text first ++ l)) (sym (rest_is rest))
