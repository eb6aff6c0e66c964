-- A word that is read byte by byte, and a text that is read from the middle of a word on.
use Rattle.std.specs.Prelude.{◌≡◌, ◌==◌, ◌+◌, ◌*◌, ◌++◌, ℕ, if◌then◌else◌, nat_lt, List, [], ◌∷◌, Option, Some, None}
use Rattle.std.specs.Prelude.{Result, Ok, Err}
use Rattle.std.specs.Char.{digit_value, is_digit}
use Rattle.std.specs.Option.{option_to_list}
use Rattle.funnel.specs.declared.turn.Turn.{Turn}
use Rattle.funnel.specs.declared.turn.Turn.TheVariants as turn
use Rattle.funnel.specs.Schedule.{before, is_blank, most_turns}
use Rattle.funnel.specs.declared.schedule_fault.ScheduleFault.{ScheduleFault}
use Rattle.funnel.specs.declared.schedule_fault.ScheduleFault.TheVariants as fault
use Rattle.funnel.specs.declared.word.Word.{Word}
use Rattle.funnel.specs.declared.word.Word.TheVariants as word

-- A word of digits that make this number, with this count of harts. It is wrong where no hart has the number.
abbrev pub at_number : ℕ → ℕ → Word
at_number harts number = if nat_lt number harts then word.Hart number else word.Wrong

-- A word of digits that make this number, with one byte more after them. It is wrong where the byte is no digit.
abbrev pub with_digit : ℕ → ℕ → ℕ → Word
with_digit harts byte number =
    if is_digit byte 10 then at_number harts (number * 10 + digit_value byte) else word.Wrong

-- What a word is with one byte more.
abbrev pub with_byte : ℕ → ℕ → Word → Word
with_byte harts byte word.Empty = if byte == 99 then word.Collect else with_digit harts byte 0
with_byte harts byte (word.Hart number) = with_digit harts byte number
with_byte harts byte word.Collect = word.Wrong
with_byte harts byte word.Wrong = word.Wrong

-- The turn of a word, where it has one.
abbrev pub turn_by : Word → Option Turn
turn_by word.Empty = None
turn_by word.Collect = Some turn.Collect
turn_by (word.Hart number) = Some (turn.Hart number)
turn_by word.Wrong = None

-- This turn, of the word with this number, or the fault that the word has none.
abbrev pub right_at : ℕ → Option Turn → Result (Option Turn) ScheduleFault
right_at number None = Err (fault.Word number)
right_at number (Some turn) = Ok (Some turn)

-- The turn of the word with this number, or its fault. An empty word has neither.
abbrev pub turn_at : ℕ → Word → Result (Option Turn) ScheduleFault
turn_at number word.Empty = Ok None
turn_at number so_far = if nat_lt most_turns number then Err fault.TooLong else right_at number (turn_by so_far)

-- The turn of a word, where it has one, and then the turns of the words after it, or the first fault.
abbrev pub past : Result (Option Turn) ScheduleFault → Result (List Turn) ScheduleFault
    → Result (List Turn) ScheduleFault
past (Err why) rest = Err why
past (Ok None) rest = rest
past (Ok (Some turn)) rest = before turn rest

-- The number of the next word: one more than this number, where the word with this number has a turn, and else this
-- number.
abbrev pub number_past : Result (Option Turn) ScheduleFault → ℕ → ℕ
number_past (Err why) number = number
number_past (Ok None) number = number
number_past (Ok (Some turn)) number = number + 1

-- The turns of the rest of a text, after the bytes that were read of the word with this number, or the first fault.
abbrev pub turns_behind : ℕ → ℕ → Word → List ℕ → Result (List Turn) ScheduleFault
turns_behind harts number so_far [] = past (turn_at number so_far) (Ok [])
turns_behind harts number so_far (byte ∷ text) =
    if is_blank byte
    then past (turn_at number so_far) (turns_behind harts (number_past (turn_at number so_far) number) word.Empty text)
    else turns_behind harts number (with_byte harts byte so_far) text

-- Turns, and then those of the rest, or the fault of the rest.
abbrev pub turns_then : List Turn → Result (List Turn) ScheduleFault → Result (List Turn) ScheduleFault
turns_then turns (Err why) = Err why
turns_then turns (Ok rest) = Ok (turns ++ rest)

-- The word has no fault, and its turn, where it has one, is added after these turns.
abbrev pub IsAdded : Result (Option Turn) ScheduleFault → List Turn → List Turn → Type 0
IsAdded (Err why) old new = ⊥
IsAdded (Ok turn) old new = new ≡ old ++ option_to_list turn
