-- The fields of a table, and its lines.
use Rattle.std.specs.Prelude.{ℕ, ◌/◌, ◌%◌, ◌++◌, false, List, [], ◌∷◌, Option, Some, None, codes}
use Rattle.std.specs.Fmt.{decimal, digits}
use Rattle.std.specs.List.{flat_map}

-- A line of a table: its fields with a comma between each two, and a line feed.
abbrev pub fields_line : List (List ℕ) → List ℕ
fields_line [] = codes "\n"
fields_line (field ∷ []) = field ++ codes "\n"
fields_line (field ∷ next ∷ more) = field ++ (codes "," ++ fields_line (next ∷ more))

-- A number, where there is one.
abbrev pub number_field : Option ℕ → List ℕ
number_field None = []
number_field (Some number) = decimal number

-- The two hexadecimal digits of a byte, in lower case.
abbrev pub byte_text : ℕ → List ℕ
byte_text byte = digits 16 false (byte / 16) ++ digits 16 false (byte % 16)

-- The hexadecimal digits of bytes.
abbrev pub bytes_text : List ℕ → List ℕ
bytes_text bytes = flat_map byte_text bytes
