-- What the calls that read a file give.
use Rattle.std.specs.Prelude.{◌≡◌, ◌<◌, ℕ, List, []}

-- What the calls that read a file gave: these bytes, after which it had ended, or these bytes so far.
pub data Gave : Type 0 where
  Whole : List ℕ → Gave
  First : List ℕ → Gave

-- What the calls on an open file may give, the file at its path may give. It may have given no byte so far.
abbrev pub GivesFrom : (Gave → Type 0) → (Gave → Type 0) → Type 0
GivesFrom May Gives = Gives (First []) × ((gave : Gave) → May gave → Gives gave)

-- These bytes may be given so far. Where the last call gave none into a buffer that has room for some, they may be all
-- that the file gives.
abbrev pub AreGiven : (Gave → Type 0) → List ℕ → ℕ → ℕ → Type 0
AreGiven May given room count = May (First given) × (count ≡ 0 → 0 < room → May (Whole given))

-- This is given by a file of which this predicate says what it may give. Which proof there is plays no part.
abbrev pub IsGiven : (Gave → Type 0) → Gave → Type 0
IsGiven Gives gave = ∥ Gives gave ∥₁
