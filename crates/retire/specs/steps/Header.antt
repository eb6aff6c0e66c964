-- The header at the front of a log.
use Rattle.std.specs.Prelude.{◌≡◌, ◌⊎◌, ◌++◌, Bool, ℕ, List, [], ◌∷◌, map}
use Rattle.std.specs.List.{join_with_byte}
use Rattle.retire.specs.Log.{header}
use Rattle.retire.specs.steps.PlainRow.{EndsLineIn}

-- The names of the header's fields, each in quotes.
abbrev pub quoted_header : List (List ℕ)
quoted_header = map (λ name. 34 ∷ (name ++ 34 ∷ [])) header

-- The names of the header's fields with a comma between each two, as they are or each in quotes.
abbrev pub AreNames : List ℕ → Type 0
AreNames names = (names ≡ join_with_byte 44 header) ⊎ (names ≡ join_with_byte 44 quoted_header)

-- A text is these names, and then the rest.
abbrev pub IsHeaderBefore : List ℕ → List ℕ → Type 0
IsHeaderBefore text rest = (names : List ℕ) × (text ≡ names ++ rest) × AreNames names

-- A text is the line of these names, and then the rest.
abbrev pub HasHeader : Bool → List ℕ → List ℕ → Type 0
HasHeader ended text rest = (end : List ℕ) × IsHeaderBefore text end × EndsLineIn ended end rest
