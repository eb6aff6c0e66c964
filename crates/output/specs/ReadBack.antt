-- The rows of a table are read back.
use Rattle.std.specs.Prelude.{◌≡◌, ℕ, ◌++◌, List, [], ◌∷◌, Some}
use Rattle.csv.specs.Machine.{next_record}
use Rattle.csv.specs.Reading.{default_config}
use Rattle.csv.specs.declared.parser.State.TheVariants.{StartRecord}
use Rattle.output.specs.Fields.{fields_line}
use Rattle.output.specs.Quoted.{quoted_line}

-- Where this line comes next, `csv` reads just these fields as a record, and goes on after the line, whatever follows.
abbrev pub IsReadAs : List ℕ → List (List ℕ) → Type 0
IsReadAs line fields = (rest : List ℕ)
    → next_record default_config StartRecord [] [] (line ++ rest) ≡ Some (fields, StartRecord, rest)

-- A line of these fields as they are is read as just these fields.
abbrev pub IsReadBack : List (List ℕ) → Type 0
IsReadBack fields = IsReadAs (fields_line fields) fields

-- Fields of any bytes are read back, where a row has two of them or more and each is written as `csv` writes it.
abbrev pub AreReadBack : Type 0
AreReadBack = (first next : List ℕ) (more : List (List ℕ))
    → IsReadAs (quoted_line (first ∷ next ∷ more)) (first ∷ next ∷ more)
