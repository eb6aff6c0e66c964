-- The turns of a schedule's text.
use Rattle.std.specs.Prelude.{◌==◌, ◌||◌, ◌&&◌, ◌+◌, ℕ, Bool, true, false, if◌then◌else◌, nat_eq, nat_lt, codes, List}
use Rattle.std.specs.Prelude.{[], ◌∷◌, Option, Some, None, Result, Ok, Err}
use Rattle.std.specs.Char.{is_digit}
use Rattle.std.specs.Cmp.Lexicographic.{pointwise}
use Rattle.std.specs.List.{filter, list_all, slice_split}
use Rattle.std.specs.Str.Parse.{digits_value}
use Rattle.funnel.specs.declared.turn.Turn.{Turn}
use Rattle.funnel.specs.declared.turn.Turn.TheVariants as turn
use Rattle.funnel.specs.declared.schedule_fault.ScheduleFault.{ScheduleFault}
use Rattle.funnel.specs.declared.schedule_fault.ScheduleFault.TheVariants as fault

-- The most turns of a schedule.
abbrev pub most_turns : ℕ
most_turns = 16777216

-- A byte that separates words: a space, a line feed or a carriage return.
abbrev pub is_blank : ℕ → Bool
is_blank byte = byte == 32 || (byte == 10 || byte == 13)

-- A word has one byte or more.
abbrev pub is_word : List ℕ → Bool
is_word [] = false
is_word (byte ∷ rest) = true

-- The words of a text, in order: its parts between blanks, without the empty ones.
abbrev pub words_in : List ℕ → List (List ℕ)
words_in text = filter is_word (slice_split is_blank text)

-- One or more decimal digits.
abbrev pub is_number : List ℕ → Bool
is_number word = is_word word && list_all (λ byte. is_digit byte 10) word

-- The turn in which the hart with this number sends, where the number is below this count of harts.
abbrev pub hart_turn : ℕ → ℕ → Option Turn
hart_turn harts number = if nat_lt number harts then Some (turn.Hart number) else None

-- The turn of a word, with this count of harts: `c` is the turn that takes the front message, and the decimal number of
-- a hart is the turn in which that hart sends. Any other word has none.
abbrev pub turn_of : ℕ → List ℕ → Option Turn
turn_of harts word =
    if pointwise nat_eq word (codes "c") then Some turn.Collect else
    if is_number word then hart_turn harts (digits_value 10 word) else
    None

-- A turn, and then those of the words after it, or the fault of these.
abbrev pub before : Turn → Result (List Turn) ScheduleFault → Result (List Turn) ScheduleFault
before turn (Ok turns) = Ok (turn ∷ turns)
before turn (Err why) = Err why

-- The turn of the word with this number, and then those of the words after it, or the fault of these. Where the word
-- has no turn, the fault has its number.
abbrev pub with_turn : ℕ → Option Turn → Result (List Turn) ScheduleFault → Result (List Turn) ScheduleFault
with_turn number None rest = Err (fault.Word number)
with_turn number (Some turn) rest = before turn rest

-- The turns of words, in order, or the fault of the first word that has one. The first word has this number. A word
-- whose number is above the most turns has the fault that the text is too long.
abbrev pub turns_from : ℕ → ℕ → List (List ℕ) → Result (List Turn) ScheduleFault
turns_from harts number [] = Ok []
turns_from harts number (word ∷ words) =
    if nat_lt most_turns number then Err fault.TooLong else
    with_turn number (turn_of harts word) (turns_from harts (number + 1) words)

-- The turns of a text, with this count of harts, or its first fault. Its words are numbered from 1.
abbrev pub schedule_of : ℕ → List ℕ → Result (List Turn) ScheduleFault
schedule_of harts text = turns_from harts 1 (words_in text)
