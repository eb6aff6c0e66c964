-- Rising numbers are known by which numbers are among them.
use Rattle.std.proofs.Common.{◌≡◌, ◌⊎◌, inl, inr, ℕ, ◌+◌, ◌≤◌, List, [], ◌∷◌, refl, sym, ap, subst, arith, ◌∙◌}
use Rattle.losses.specs.Apart.{AreRising}
use Rattle.losses.specs.WholeStretches.{NumberCame}
use Rattle.losses.proofs.RisingBlocks.{not_below}

-- Each of the first numbers is among the second.
abbrev pub AreAmong : List ℕ → List ℕ → Type 0
AreAmong numbers others = (number : ℕ) → NumberCame number numbers → NumberCame number others

first_same : (from : ℕ) (first : ℕ) (numbers : List ℕ) (other : ℕ) (others : List ℕ)
    → AreRising from (first ∷ numbers) → AreRising from (other ∷ others)
    → AreAmong (first ∷ numbers) (other ∷ others) → other ≤ first
first_same from first numbers other others rising rises among = by_place (among first (inl refl))
  where
    by_place : (first ≡ other) ⊎ NumberCame first others → other ≤ first
    by_place (inl is) = omega (arith, is)
    by_place (inr came) = let above = not_below (other + 1) others first rises.1 came in omega (arith, above)

rest_among : (first : ℕ) (numbers others : List ℕ) → AreRising (first + 1) numbers
    → AreAmong (first ∷ numbers) (first ∷ others) → AreAmong numbers others
rest_among first numbers others rising among number came = by_place (among number (inr came))
  where
    by_place : (number ≡ first) ⊎ NumberCame number others → NumberCame number others
    by_place (inl is) =
        let above = not_below (first + 1) numbers number rising came in absurd (omega (arith, above, is))
    by_place (inr later) = later

-- Two lists of rising numbers with the same numbers are the same list.
pub rising_same : (from : ℕ) (numbers others : List ℕ) → AreRising from numbers → AreRising from others
    → AreAmong numbers others → AreAmong others numbers → numbers ≡ others
rising_same from [] [] rising rises among back = refl
rising_same from [] (other ∷ others) rising rises among back = absurd (back other (inl refl))
rising_same from (first ∷ numbers) [] rising rises among back = absurd (among first (inl refl))
rising_same from (first ∷ numbers) (other ∷ others) rising rises among back =
    let least = first_same from first numbers other others rising rises among in
    let most = first_same from other others first numbers rises rising back in
    let is : other ≡ first = omega (arith, least, most) in
    let rises_on = subst (λ n. AreRising (n + 1) others) is rises.1 in
    let among_on = subst (λ n. AreAmong (first ∷ numbers) (n ∷ others)) is among in
    let back_on = subst (λ n. AreAmong (n ∷ others) (first ∷ numbers)) is back in
    ap (λ l. first ∷ l) (rising_same (first + 1) numbers others rising.1 rises_on
    (rest_among first numbers others rising.1 among_on) (rest_among first others numbers rises_on back_on))
    ∙ ap (λ n. n ∷ others) (sym is)
