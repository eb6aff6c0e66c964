-- Which rows of its hart a message settles.
use Rattle.std.specs.Prelude.{ℕ, ◌-◌, ◌++◌, Bool, true, false, List, [], ◌∷◌, Option, Some, None, codes}
use Rattle.std.specs.Fmt.{decimal}
use Rattle.listing.specs.declared.form.Form.{Form}
use Rattle.listing.specs.declared.form.Form.TheVariants.{Lines, Table}
use Prim.Native.Nat.{zero, suc}

-- The first row and the last of a message that adds so many events, where its hart has so many with these. A message
-- that adds none has no rows.
abbrev pub first_row : ℕ → ℕ → Option ℕ
first_row rows zero = None
first_row rows (suc more) = Some (rows - more)

abbrev pub last_row : ℕ → ℕ → Option ℕ
last_row rows zero = None
last_row rows (suc more) = Some rows

-- What the text says of these rows.
abbrev pub rows_text : ℕ → ℕ → List ℕ
rows_text rows zero = []
rows_text rows (suc zero) = codes ", row " ++ decimal rows
rows_text rows (suc (suc more)) =
    codes ", rows " ++ (decimal (rows - suc more) ++ (codes " to " ++ decimal rows))

-- Lines say which rows a message settles.
abbrev pub shows_rows : Form → Bool
shows_rows (Lines rows) = rows
shows_rows Table = false

-- The same where rows are to be said, and else nothing.
abbrev pub shown_rows : Bool → ℕ → ℕ → List ℕ
shown_rows false rows count = []
shown_rows true rows count = rows_text rows count

-- A row, where there is one.
abbrev pub row_field : Option ℕ → List ℕ
row_field None = []
row_field (Some row) = decimal row

-- The fields of the first row and of the last.
abbrev pub settled_fields : ℕ → ℕ → List (List ℕ)
settled_fields rows count = row_field (first_row rows count) ∷ row_field (last_row rows count) ∷ []
