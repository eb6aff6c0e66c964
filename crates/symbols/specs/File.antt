-- The symbols of a file, which has them in lines as `nm` prints them: an address, perhaps a size, a type and a name,
-- with single blanks between them.
use Rattle.std.specs.Prelude.{ℕ, ◌==◌, ◌&&◌, ◌||◌, not, if◌then◌else◌, is_some, Bool, false, List, [], ◌∷◌, Option, Some, None}
use Rattle.std.specs.Prelude.{length}
use Rattle.std.specs.List.{after_first, before_first, filter_map, slice_split}
use Rattle.retire.specs.Number.{digits_number}

-- A name, and the address of the first byte that it names.
pub record Symbol : Type 0 where
  pub address : ℕ
  pub name : List ℕ

-- A file's greatest length.
abbrev pub most_bytes : ℕ
most_bytes = 16777216

-- The lines of a text, which line feeds part.
abbrev pub lines_of : List ℕ → List (List ℕ)
lines_of text = slice_split (λ byte. byte == 10) text

-- A line without a carriage return at its end.
abbrev pub without_return : List ℕ → List ℕ
without_return [] = []
without_return (byte ∷ []) = if byte == 13 then [] else byte ∷ []
without_return (byte ∷ next ∷ rest) = byte ∷ without_return (next ∷ rest)

-- The byte is a blank.
abbrev pub is_blank : ℕ → Bool
is_blank byte = byte == 32

-- The type is one of t, T, w and W: a symbol of code, or a weak one.
abbrev pub is_code_type : ℕ → Bool
is_code_type byte = (byte == 116) || (byte == 84) || (byte == 119) || (byte == 87)

-- The bytes are a symbol's name: there is one at least, and the first is no dollar. By names that begin with a dollar
-- an assembler marks data and instructions.
abbrev pub is_name : List ℕ → Bool
is_name [] = false
is_name (byte ∷ rest) = not (byte == 36)

-- The name after a type of code and a blank.
abbrev pub name_behind : List ℕ → Option (List ℕ)
name_behind (kind ∷ blank ∷ name) =
    if (is_code_type kind && is_blank blank) && is_name name then Some name else None
name_behind _ = None

-- The text is a size: 8 or 16 hexadecimal digits.
abbrev pub is_size : List ℕ → Bool
is_size text = ((length text == 8) || (length text == 16)) && is_some (digits_number text)

-- What is left of a text without a size in front and the blank after it, where it begins with a size.
abbrev pub without_size : List ℕ → List ℕ
without_size text = if is_size (before_first is_blank text) then after_first is_blank text else text

-- The symbol at this address with this name, if there are both.
abbrev pub symbol_with : Option ℕ → Option (List ℕ) → Option Symbol
symbol_with (Some address) (Some name) = Some (record { address = address; name = name })
symbol_with _ _ = None

-- The symbol of a line: one to sixteen hexadecimal digits, a blank, perhaps a size and a blank, the type, a blank and
-- the name. Another line has none.
abbrev pub symbol_of : List ℕ → Option Symbol
symbol_of line =
    let text = without_return line in
    symbol_with (digits_number (before_first is_blank text)) (name_behind (without_size (after_first is_blank text)))

-- The symbols of a file, in its order.
abbrev pub symbols_of : List ℕ → List Symbol
symbols_of file = filter_map symbol_of (lines_of file)
