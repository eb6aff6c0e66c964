-- The parts of which the row of a message that is received is written.
use Rattle.std.specs.Prelude.{ℕ, ◌++◌, Bool, List, [], ◌∷◌, Option}
use Rattle.std.specs.Fmt.{decimal}
use Rattle.listing.specs.Rows.{flag_field, place_field}
use Rattle.listing.specs.Cells.{cells}
use Rattle.listing.specs.SettledRows.{settled_fields}

-- The fields of an effect before the names of its places, by how many events its hart has and how many are added.
abbrev pub tail_fields : Bool → Bool → ℕ → ℕ → Option ℕ → Option ℕ → List (List ℕ)
tail_fields waits closes rows count first last =
    flag_field waits ∷ flag_field closes ∷ [] ∷ [] ∷ [] ∷ [] ∷ decimal count
    ∷ (settled_fields rows count ++ (place_field first ∷ place_field last ∷ []))

abbrev pub tail_cells : Bool → Bool → ℕ → ℕ → Option ℕ → Option ℕ → List ℕ
tail_cells waits closes rows count first last = cells (tail_fields waits closes rows count first last)
