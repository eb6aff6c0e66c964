-- Texts of harts, one after the other.
use Rattle.std.specs.Prelude.{ℕ, ◌+◌, ◌++◌, codes, List, [], ◌∷◌, if◌then◌else◌}
use Rattle.std.specs.Fmt.{decimal}
use Rattle.message.specs.Range.{selects}
use Rattle.message.specs.declared.range.HartRange.{HartRange}

-- The line before the text of a hart.
abbrev pub hart_line : ℕ → List ℕ
hart_line hart = codes "hart " ++ (decimal hart ++ codes "\n")

-- The line of a hart and its text, by its number and by what it has.
abbrev pub numbered_hart : {X : Type 0} → (ℕ → X → List ℕ) → ℕ → X → List ℕ
numbered_hart text hart own = hart_line hart ++ text hart own

-- The same, where it is one of these harts, and else nothing.
abbrev pub numbered_hart_of : {X : Type 0} → HartRange → (ℕ → X → List ℕ) → ℕ → X → List ℕ
numbered_hart_of range text hart own = if selects range hart then numbered_hart text hart own else []

-- The texts of harts, from this one on, one after the other.
abbrev pub joined_harts : {X : Type 0} → (ℕ → X → List ℕ) → ℕ → List X → List ℕ
joined_harts text hart [] = []
joined_harts text hart (own ∷ others) = text hart own ++ joined_harts text (hart + 1) others

-- For each hart, from this one on, its line and its text, by its number and by what it has.
abbrev pub numbered_harts : {X : Type 0} → (ℕ → X → List ℕ) → ℕ → List X → List ℕ
numbered_harts text hart harts = joined_harts (numbered_hart text) hart harts

-- The same, of those of these harts alone.
abbrev pub numbered_harts_of : {X : Type 0} → HartRange → (ℕ → X → List ℕ) → ℕ → List X → List ℕ
numbered_harts_of range text hart harts = joined_harts (numbered_hart_of range text) hart harts

-- For each hart, from this one on, its line and the text of what it has.
abbrev pub each_hart : {X : Type 0} → (X → List ℕ) → ℕ → List X → List ℕ
each_hart text hart harts = numbered_harts (λ number. text) hart harts

-- The same, of those of these harts alone.
abbrev pub each_hart_of : {X : Type 0} → HartRange → (X → List ℕ) → ℕ → List X → List ℕ
each_hart_of range text hart harts = numbered_harts_of range (λ number. text) hart harts
