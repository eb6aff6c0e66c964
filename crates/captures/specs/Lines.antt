-- What the lines of a text say, and the messages that they are of.
use Rattle.std.specs.Prelude.{ℕ, ◌+◌, max, if◌then◌else◌, List, [], ◌∷◌, ◌++◌, length, Option, Some, None, Result, Ok}
use Rattle.std.specs.Prelude.{Err}
use Rattle.std.specs.List.{fold}
use Rattle.std.specs.Str.Lines.{lines}
use Rattle.message.specs.OfHart.{of_hart}
use Rattle.message.specs.declared.message.Message.{Message}
use Rattle.captures.specs.Line.{form_of_line, is_passed_over, line_of}
use Rattle.captures.specs.Number.{lowest_of, number_by}
use Rattle.captures.specs.declared.line_fault.LineFault.{LineFault}
use Rattle.captures.specs.declared.line_fault.LinesFault.{LinesFault}
use Rattle.captures.specs.declared.line_fault.LinesFault.TheVariants as fault
use Rattle.captures.specs.declared.line_form.Form.{Form}
use Rattle.captures.specs.declared.line_form.Form.TheVariants.{Numbered}
use Rattle.captures.specs.declared.capture_line.Line.{Line}
use Rattle.captures.specs.declared.line_settings.Settings.{Settings}

-- The form of the first of these lines that is not passed over.
abbrev pub first_form : List (List ℕ) → Form
first_form [] = Numbered
first_form (line ∷ lines) = if is_passed_over line then first_form lines else form_of_line line

-- The form of a text with these lines. Where a field counts so many numbers, each line has one.
abbrev pub form_of : Option ℕ → List (List ℕ) → Form
form_of None lines = first_form lines
form_of (Some numbers) lines = Numbered

-- What a line says, and then what those after it say, or their fault.
abbrev pub before : Line → Result (List Line) LinesFault → Result (List Line) LinesFault
before line (Ok lines) = Ok (line ∷ lines)
before line (Err why) = Err why

-- The same, or the fault of the line with this number. A line that is passed over says nothing.
abbrev pub with_line : ℕ → Result (Option Line) LineFault → Result (List Line) LinesFault
    → Result (List Line) LinesFault
with_line number (Err why) rest = Err (fault.Line number why)
with_line number (Ok None) rest = rest
with_line number (Ok (Some line)) rest = before line rest

-- What lines of this form say, or the fault of the first that has one. The first line has this number.
abbrev pub lines_from : Settings → Form → ℕ → List (List ℕ) → Result (List Line) LinesFault
lines_from settings form number [] = Ok []
lines_from settings form number (line ∷ lines) =
    with_line number (line_of settings form line) (lines_from settings form (number + 1) lines)

-- What the lines of a text say, or the fault of the first line that has one. Lines are numbered from 1, also those that
-- are passed over. The lines are those of Rust's `str::lines`: a line feed ends a line, which may have a carriage
-- return before it, and the last line needs no end.
abbrev pub lines_of : Settings → List ℕ → Result (List Line) LinesFault
lines_of settings text = lines_from settings (form_of settings.numbers (lines text)) 1 (lines text)

-- The message of a line after these messages. Its number is known by those of its hart.
abbrev pub message_after : Option ℕ → List Message → Line → Message
message_after numbers earlier line =
    record {
      hart = line.hart;
      number =
          number_by numbers (length (of_hart line.hart earlier)) (lowest_of numbers (of_hart line.hart earlier))
          line.number;
      payload = line.payload;
    }

-- The messages of lines that come after these messages.
abbrev pub messages_after : Option ℕ → List Message → List Line → List Message
messages_after numbers earlier [] = []
messages_after numbers earlier (line ∷ lines) =
    message_after numbers earlier line
    ∷ messages_after numbers (earlier ++ (message_after numbers earlier line ∷ [])) lines

-- The messages of lines, whose fields count so many numbers, or have the messages' own.
abbrev pub messages_of : Option ℕ → List Line → List Message
messages_of numbers lines = messages_after numbers [] lines

-- The count of harts up to the highest of these lines, and 1 where there is no line.
abbrev pub harts_up_to : List Line → ℕ
harts_up_to lines = fold (λ harts (line : Line). max harts (line.hart + 1)) 1 lines
