-- What the front of a text holds.
use Rattle.std.specs.Prelude.{◌≡◌, ◌⊎◌, ◌+◌, ◌≤◌, ◌++◌, ⊤, Bool, ℕ, List, [], ◌∷◌, take, length, true, false, Option}
use Rattle.std.specs.Prelude.{Some, Ok}
use Rattle.std.specs.Prelude.{if◌then◌else◌}
use Rattle.std.specs.List.{list_all, list_any}
use Rattle.std.specs.Str.Parse.{digits_value}
use Rattle.csv.specs.Quoting.{needs_byte}
use Rattle.csv.specs.Writing.{default_writer}
use Rattle.csv.specs.declared.parser.State.TheVariants.{StartRecord}
use Rattle.retire.specs.Number.{is_hex_digit, number_of}
use Rattle.retire.specs.PlainLog.{EndsLine}
use Rattle.retire.specs.Row.{is_garbled, numbers_event, row_event}
use Rattle.retire.specs.steps.RowsLeft.{MayFollow, records_left}
use Rattle.retire.specs.declared.event.Event.{Event}

-- How many hexadecimal digits a text begins with.
unfoldable pub digit_count : List ℕ → ℕ
digit_count [] = 0
digit_count (byte ∷ rest) = if is_hex_digit byte then digit_count rest + 1 else 0

-- A text begins with this many hexadecimal digits, at most sixteen, and they spell this value.
abbrev pub HasDigits : List ℕ → ℕ → ℕ → Type 0
HasDigits text value count =
    (count ≤ 16) × (count ≤ length text) × (list_all is_hex_digit (take count text) ≡ true)
    × (value ≡ digits_value 16 (take count text))

-- A field spells this number, or is empty where there is none, and none of its bytes calls for quotes.
abbrev pub Spells : List ℕ → Option ℕ → Type 0
Spells field number =
    (number_of field ≡ number) × (is_garbled field number ≡ false)
    × (list_any (needs_byte default_writer) field ≡ false)

-- A text is a field that spells this number, and then the rest.
abbrev pub HasField : List ℕ → Option ℕ → List ℕ → Type 0
HasField text number rest = (field : List ℕ) × (text ≡ field ++ rest) × Spells field number

-- A field ends here: at a byte that would call for quotes in it, as a comma does, or at the end of the text.
abbrev pub EndsField : List ℕ → Type 0
EndsField [] = ⊤
EndsField (byte ∷ rest) = needs_byte default_writer byte ≡ true

-- A text is a field that spells this number, a comma, and then the rest.
abbrev pub HasCell : List ℕ → Option ℕ → List ℕ → Type 0
HasCell text number rest = (field : List ℕ) × (text ≡ field ++ 44 ∷ rest) × Spells field number

-- A field is written as it is, or in quotes.
abbrev pub IsWritten : List ℕ → List ℕ → Type 0
IsWritten field written = (written ≡ field) ⊎ (written ≡ 34 ∷ (field ++ 34 ∷ []))

-- A text is a field that spells this number, written as it is or in quotes, and then the rest.
abbrev pub HasWritten : List ℕ → Option ℕ → List ℕ → Type 0
HasWritten text number rest =
    (field : List ℕ) × (written : List ℕ) × (text ≡ written ++ rest) × IsWritten field written × Spells field number

-- A text is the end of a line, and then the rest. The end of the text ends a line only where its source has ended.
abbrev pub EndsLineIn : Bool → List ℕ → List ℕ → Type 0
EndsLineIn ended text rest =
    (text ≡ 10 ∷ rest) ⊎ (text ≡ 13 ∷ 10 ∷ rest) ⊎ ((ended ≡ true) × (text ≡ []) × (rest ≡ []))

-- Whatever follows, the first record of a text has these fields, and the others are those of the rest.
abbrev pub HasRecord : Bool → List ℕ → List (List ℕ) → List ℕ → Type 0
HasRecord ended text fields rest =
    (more : List ℕ) → MayFollow ended more
    → records_left StartRecord (text ++ more) ≡ fields ∷ records_left StartRecord (rest ++ more)

-- A text is a line that holds this event, and then the rest.
abbrev pub HasRow : Bool → ℕ → List ℕ → Event → List ℕ → Type 0
HasRow ended row text event rest =
    (fields : List (List ℕ)) × (row_event row fields ≡ Ok event) × HasRecord ended text fields rest

-- A text is a line of five fields that spell the numbers of an event, and then the rest.
pub record IsPlainRow (row : ℕ) (text rest : List ℕ) : Type 0 where
  pub addr : ℕ
  pub itype : ℕ
  pub privilege : ℕ
  pub cause : Option ℕ
  pub tval : Option ℕ
  pub event : Event
  pub after_addr : List ℕ
  pub after_itype : List ℕ
  pub after_privilege : List ℕ
  pub after_cause : List ℕ
  pub after_tval : List ℕ
  pub first : HasCell text (Some addr) after_addr
  pub second : HasCell after_addr (Some itype) after_itype
  pub third : HasCell after_itype (Some privilege) after_privilege
  pub fourth : HasCell after_privilege cause after_cause
  pub fifth : HasField after_cause tval after_tval
  pub ends : EndsLine after_tval rest
  pub known : numbers_event row addr itype privilege cause tval ≡ Ok event
