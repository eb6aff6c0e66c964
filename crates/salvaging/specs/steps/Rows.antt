-- How the rows of a hart's numbers are found.
use Rattle.std.specs.Prelude.{ℕ, ◌≡◌, ◌++◌, List, [], ◌∷◌, map}
use Rattle.salvaging.specs.Treatments.{Row}
use Rattle.salvaging.specs.declared.rows.NumberRow.{NumberRow}

-- The row that a row of the code represents.
abbrev pub row_by : NumberRow → Row
row_by row = record { number = row.number; treated = row.treated }

-- These are the rows, from the last one on.
abbrev pub AreRowsBack : List Row → List NumberRow → Type 0
AreRowsBack [] found = found ≡ []
AreRowsBack (row ∷ rows) found =
    (front : List NumberRow) × (last : NumberRow) × (found ≡ front ++ last ∷ []) × (row_by last ≡ row)
    × AreRowsBack rows front

-- The numbers of rows.
abbrev pub numbers_in : List Row → List ℕ
numbers_in all = map (λ (row : Row). row.number) all
