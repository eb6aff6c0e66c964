-- Lines that are passed one by one.
use Rattle.std.specs.Prelude.{ℕ, ◌+◌, ◌-◌, ◌/◌, max, List, [], ◌∷◌, slice_index, slice_set, Option, Some, None, Result}
use Rattle.std.specs.Prelude.{Ok, Err}
use Rattle.message.specs.declared.message.Message.{Message}
use Rattle.captures.specs.Line.{line_of}
use Rattle.captures.specs.Number.{number_by}
use Rattle.captures.specs.declared.line_fault.LineFault.{LineFault}
use Rattle.captures.specs.declared.line_fault.LinesFault.{LinesFault}
use Rattle.captures.specs.declared.line_fault.LinesFault.TheVariants as fault
use Rattle.captures.specs.declared.line_form.Form.{Form}
use Rattle.captures.specs.declared.capture_line.Line.{Line}
use Rattle.captures.specs.declared.line_settings.Settings.{Settings}

-- The count of harts with one line more.
abbrev pub harts_with : ℕ → Result (Option Line) LineFault → ℕ
harts_with harts (Err why) = harts
harts_with harts (Ok None) = harts
harts_with harts (Ok (Some line)) = max harts (line.hart + 1)

-- The result of the lines after the one with this number, or its fault.
abbrev pub past : ℕ → Result (Option Line) LineFault → Result ℕ LinesFault → Result ℕ LinesFault
past number (Err why) rest = Err (fault.Line number why)
past number (Ok line) rest = rest

-- The count of harts up to the highest of these lines, and of those before them, which have so many, or the first
-- fault. The first line has this number.
abbrev pub checked_from : Settings → Form → ℕ → ℕ → List (List ℕ) → Result ℕ LinesFault
checked_from settings form number harts [] = Ok harts
checked_from settings form number harts (line ∷ lines) =
    past number (line_of settings form line)
    (checked_from settings form (number + 1) (harts_with harts (line_of settings form line)) lines)

-- The message of a line, where so many lines of each hart were passed, and these are the lowest numbers of each.
abbrev pub message_at : Option ℕ → List ℕ → List ℕ → Line → Message
message_at numbers counts lows line =
    record {
      hart = line.hart;
      number = number_by numbers (slice_index counts line.hart) (slice_index lows line.hart) line.number;
      payload = line.payload;
    }

-- How many lines of each hart were passed, with one line more.
abbrev pub counted : List ℕ → Line → List ℕ
counted counts line = slice_set counts line.hart (slice_index counts line.hart + 1)

-- The lowest number after a message with this one.
abbrev pub lowest_with : Option ℕ → ℕ → ℕ → ℕ
lowest_with None lowest number = lowest
lowest_with (Some numbers) lowest number = max lowest (number + 1 - numbers / 2)

-- The lowest numbers of each hart, with one message more.
abbrev pub lowered : Option ℕ → List ℕ → Message → List ℕ
lowered numbers lows message =
    slice_set lows message.hart (lowest_with numbers (slice_index lows message.hart) message.number)
