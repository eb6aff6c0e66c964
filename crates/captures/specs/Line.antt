-- What a line of text says: a hart, a number or none, and the bytes of a payload.
use Rattle.std.specs.Prelude.{ℕ, ◌^◌, ◌==◌, ◌&&◌, ◌||◌, not, if◌then◌else◌, nat_le, nat_lt, Bool, true, false, List, []}
use Rattle.std.specs.Prelude.{◌∷◌}
use Rattle.std.specs.Prelude.{Option, Some, None, option_map, unwrap_or, Result, Ok, Err, drop, length, slice_index}
use Rattle.std.specs.Char.{is_digit}
use Rattle.std.specs.List.{filter, flat_map, list_all, slice_split}
use Rattle.std.specs.Result.{result_ok}
use Rattle.std.specs.Str.Parse.{digits_value}
use Rattle.hex.specs.Hex.{decode_of}
use Rattle.message.specs.Version.{most_harts}
use Rattle.captures.specs.declared.line_fault.LineFault.{LineFault}
use Rattle.captures.specs.declared.line_fault.LineFault.TheVariants.{Fields, Hart, Number, Bytes, Above}
use Rattle.captures.specs.declared.line_form.Form.{Form}
use Rattle.captures.specs.declared.line_form.Form.TheVariants.{Numbered, Counted}
use Rattle.captures.specs.declared.capture_line.Line.{Line}
use Rattle.captures.specs.declared.line_settings.Settings.{Settings}

-- A blank or a tab.
abbrev pub is_blank : ℕ → Bool
is_blank byte = byte == 32 || byte == 9

-- A comma.
abbrev pub is_comma : ℕ → Bool
is_comma byte = byte == 44

-- A field has no byte.
abbrev pub is_empty : List ℕ → Bool
is_empty field = length field == 0

-- The words of a text: what is between runs of blanks and tabs.
abbrev pub words_of : List ℕ → List (List ℕ)
words_of text = filter (λ word. not (is_empty word)) (slice_split is_blank text)

-- These words, or one that is empty where there is none.
abbrev pub or_empty : List (List ℕ) → List (List ℕ)
or_empty [] = [] ∷ []
or_empty (word ∷ words) = word ∷ words

-- The fields of a line: the words of each of its parts between commas. A part with no word is an empty field.
abbrev pub fields_of : List ℕ → List (List ℕ)
fields_of line = flat_map (λ part. or_empty (words_of part)) (slice_split is_comma line)

-- There is no word, or the first begins with `#`.
abbrev pub are_passed_over : List (List ℕ) → Bool
are_passed_over [] = true
are_passed_over (word ∷ words) = slice_index word 0 == 35

-- A line is passed over: it is empty but for blanks and tabs, or begins with `#`.
abbrev pub is_passed_over : List ℕ → Bool
is_passed_over line = are_passed_over (words_of line)

-- A field is a time: it begins with `@`.
abbrev pub is_time : List ℕ → Bool
is_time field = slice_index field 0 == 64

-- What follows the bytes of a line is passed over: nothing, or a time.
abbrev pub is_over : List (List ℕ) → Bool
is_over [] = true
is_over (time ∷ []) = is_time time
is_over _ = false

-- The number of decimal digits, where there is a digit and nothing else, and the number is below this limit.
abbrev pub number_below : ℕ → List ℕ → Option ℕ
number_below limit [] = None
number_below limit (digit ∷ digits) =
    if list_all (λ byte. is_digit byte 10) (digit ∷ digits) && nat_lt (digits_value 10 (digit ∷ digits)) limit
    then Some (digits_value 10 (digit ∷ digits)) else None

-- A field without the `0x` that it may begin with.
abbrev pub without_prefix : List ℕ → List ℕ
without_prefix field = if slice_index field 0 == 48 && slice_index field 1 == 120 then drop 2 field else field

-- The bytes that 2 to 36 hexadecimal digits spell, two digits a byte. Other digits, and an odd count of them, spell
-- none.
abbrev pub payload_of : List ℕ → Option (List ℕ)
payload_of digits = if nat_le 2 (length digits) && nat_le (length digits) 36 then result_ok (decode_of digits) else None

-- The number that a line says, or none where it has no such field. It is below the count of numbers that a field has,
-- or else below 2^64. Another field says nothing.
abbrev pub number_said : Option ℕ → Option (List ℕ) → Option (Option ℕ)
number_said numbers None = Some None
number_said numbers (Some digits) = option_map Some (number_below (unwrap_or numbers (2 ^ 64)) digits)

-- The hart is below the count of harts, where one is asked for.
abbrev pub is_within : Option ℕ → ℕ → Bool
is_within None hart = true
is_within (Some harts) hart = nat_lt hart harts

-- What a line says whose hart, number and payload are these, or the first fault: of the bytes, or of a hart that is not
-- below the count that is asked for.
abbrev pub with_payload : Settings → ℕ → Option ℕ → Option (List ℕ) → Result Line LineFault
with_payload settings hart number None = Err Bytes
with_payload settings hart number (Some payload) =
    if is_within settings.harts hart then Ok (record { hart = hart; number = number; payload = payload }) else Err Above

-- The same where the number may be at fault.
abbrev pub with_number : Settings → ℕ → Option (Option ℕ) → List ℕ → Result Line LineFault
with_number settings hart None bytes = Err (Number settings.numbers)
with_number settings hart (Some number) bytes = with_payload settings hart number (payload_of (without_prefix bytes))

-- The same where the hart may be at fault.
abbrev pub with_hart : Settings → Option ℕ → Option (List ℕ) → List ℕ → Result Line LineFault
with_hart settings None number bytes = Err (Hart settings.version)
with_hart settings (Some hart) number bytes = with_number settings hart (number_said settings.numbers number) bytes

-- What a line with these fields says, or the first fault: of its hart, its number, its bytes, in this order.
abbrev pub said : Settings → List ℕ → Option (List ℕ) → List ℕ → Result Line LineFault
said settings hart number bytes = with_hart settings (number_below (most_harts settings.version) hart) number bytes

-- None of these fields is empty.
abbrev pub are_filled : List (List ℕ) → Bool
are_filled fields = list_all (λ field. not (is_empty field)) fields

-- The form of a text by the fields of its first line: two of them are a hart and bytes.
abbrev pub form_by : List (List ℕ) → Form
form_by (hart ∷ bytes ∷ later) = if is_over later then Counted else Numbered
form_by _ = Numbered

-- The form of a text whose first line this is, but for those that are passed over.
abbrev pub form_of_line : List ℕ → Form
form_of_line line = form_by (fields_of line)

-- What a line with these fields says, or the first fault. An empty field, and a count of fields that the form has not,
-- is a fault of their number. A time does not count: it is never the bytes, and after them it is passed over.
abbrev pub line_by : Settings → Form → List (List ℕ) → Result Line LineFault
line_by settings Counted (hart ∷ bytes ∷ later) =
    if are_filled (hart ∷ bytes ∷ []) && is_over later then said settings hart None bytes else Err Fields
line_by settings Numbered (hart ∷ number ∷ bytes ∷ later) =
    if are_filled (hart ∷ number ∷ bytes ∷ []) && (not (is_time bytes) && is_over later)
    then said settings hart (Some number) bytes else Err Fields
line_by settings form fields = Err Fields

-- What a line says that is not passed over.
abbrev pub some_line : Result Line LineFault → Result (Option Line) LineFault
some_line (Ok line) = Ok (Some line)
some_line (Err why) = Err why

-- What a line of a text of this form says, or its first fault. A line that is passed over says nothing.
abbrev pub line_of : Settings → Form → List ℕ → Result (Option Line) LineFault
line_of settings form line =
    if is_passed_over line then Ok None else some_line (line_by settings form (fields_of line))
