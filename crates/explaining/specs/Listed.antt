-- Numbers that a text lists.
use Rattle.std.specs.Prelude.{ℕ, ◌≡◌, ◌⊎◌, ◌↔◌, ◌++◌, List, [], ◌∷◌, codes}
use Rattle.retire.specs.LogText.{hex}

-- Numbers in lower-case hexadecimal, with `or` before the last and commas between the others, or `none`.
abbrev pub listed : List ℕ → List ℕ
listed [] = codes "none"
listed (n ∷ []) = hex n
listed (n ∷ m ∷ []) = hex n ++ (codes " or " ++ hex m)
listed (n ∷ m ∷ k ∷ more) = hex n ++ (codes ", " ++ listed (m ∷ k ∷ more))

-- A number is one of these.
abbrev pub IsOneOf : ℕ → List ℕ → Type 0
IsOneOf n [] = ⊥
IsOneOf n (m ∷ more) = (n ≡ m) ⊎ IsOneOf n more

-- The text lists just the numbers that are allowed.
pub record ListsJust (text : List ℕ) (Allowed : ℕ → Type 0) : Type 0 where
  pub numbers : List ℕ
  pub is_listed : text ≡ listed numbers
  pub just : (n : ℕ) → IsOneOf n numbers ↔ Allowed n
