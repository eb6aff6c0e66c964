-- The lines of a damaged capture, with what salvaging does with each message.
use Rattle.std.specs.Prelude.{ℕ, ◌++◌, Bool, List, Option, codes}
use Rattle.std.specs.Fmt.{decimal}
use Rattle.payload.specs.Reading.{reading}
use Rattle.payload.specs.declared.mode.Mode.{Mode}
use Rattle.message.specs.declared.message.Message.{Message}
use Rattle.captures.specs.Offsets.{offset_text}
use Rattle.listing.specs.Lines.{message_text}
use Rattle.salvage_reports.specs.declared.hart_rows.TreatedInRows.{TreatedInRows}
use Rattle.salvage_reports.specs.Words.{far_text, late_text, word_text}

-- The line of a message with which this is done: its text as a listing begins it, the word, and whether it is far or late.
abbrev pub treated_line : Bool → Option (List ℕ) → Mode → ℕ → Message → TreatedInRows → List ℕ
treated_line shows symbols mode offset message one =
    message_text mode offset message ++
    (codes " => " ++
    (word_text shows symbols (reading message.payload) one.rows one.treated.treatment
    ++ (far_text one.treated.far ++ (late_text one.treated.late ++ codes "\n"))))

-- The line of bytes that belong to no frame: the offset of the first, and how many there are.
abbrev pub run_line : ℕ → ℕ → List ℕ
run_line offset count = offset_text offset ++ (codes " bytes: " ++ (decimal count ++ codes "\n"))
