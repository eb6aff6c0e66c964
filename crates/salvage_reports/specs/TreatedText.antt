-- What salvaging does with each message of a damaged capture, as lines or as a table.
use Rattle.std.specs.Prelude.{ℕ, ◌≡◌, ◌+◌, ◌++◌, Bool, true, List, [], ◌∷◌, Option, IfSome, if◌then◌else◌}
use Rattle.frames.specs.Search.{is_chosen, mode_of, start_line}
use Rattle.frames.specs.Start.{spans_of}
use Rattle.frames.specs.declared.span.Span.{Span}
use Rattle.frames.specs.declared.span.Span.TheVariants.{Frame, Bytes}
use Rattle.listing.specs.declared.form.Form.{Form}
use Rattle.listing.specs.declared.form.Form.TheVariants.{Lines, Table}
use Rattle.message.specs.Header.{IsHeader}
use Rattle.message.specs.Range.{every_hart}
use Rattle.message.specs.declared.header.Header.{Header}
use Rattle.message.specs.declared.message.Message.{Message}
use Rattle.message.specs.declared.range.HartRange.{HartRange}
use Rattle.output.specs.Fields.{fields_line}
use Rattle.payload.specs.declared.mode.Mode.{Mode}
use Rattle.salvage_reports.specs.Lines.{run_line, treated_line}
use Rattle.salvage_reports.specs.TreatedRows.{columns, run_row, treated_row}
use Rattle.salvage_reports.specs.declared.hart_rows.TreatedInRows.{TreatedInRows}

-- The line or the row of a message with which this is done. So many messages come before it.
abbrev pub message_text : Form → Option (List ℕ) → Mode → ℕ → ℕ → Message → TreatedInRows → List ℕ
message_text (Lines rows) symbols mode at offset message one = treated_line rows symbols mode offset message one
message_text Table symbols mode at offset message one = treated_row symbols mode at offset message one

-- The line or the row of bytes that belong to no frame.
abbrev pub run_text : Form → ℕ → ℕ → List ℕ
run_text (Lines rows) offset count = run_line offset count
run_text Table offset count = run_row offset count

-- That of a span, where so many messages come before it and these are the treatments of the messages from it on. A message
-- with none left has no line and no row.
abbrev pub span_text : Form → Option (List ℕ) → Mode → ℕ → Span → List TreatedInRows → List ℕ
span_text form symbols mode at (Bytes offset count) treated = run_text form offset count
span_text form symbols mode at (Frame offset message) [] = []
span_text form symbols mode at (Frame offset message) (one ∷ treated) =
    message_text form symbols mode at offset message one

-- How many messages come before what is after the span.
abbrev pub place_after : ℕ → Span → List TreatedInRows → ℕ
place_after at (Bytes offset count) treated = at
place_after at (Frame offset message) [] = at
place_after at (Frame offset message) (one ∷ treated) = at + 1

-- The treatments of the messages after it.
abbrev pub after_span : Span → List TreatedInRows → List TreatedInRows
after_span (Bytes offset count) treated = treated
after_span (Frame offset message) [] = []
after_span (Frame offset message) (one ∷ treated) = treated

-- The lines or the rows of those of some spans that this shows, in order, where so many messages come before them. The
-- treatments are those of the messages that are shown. A message that is not shown has no line and no row, and counts.
abbrev pub spans_text : Form → (Span → Bool) → Option (List ℕ) → Mode → ℕ → List Span → List TreatedInRows → List ℕ
spans_text form shows symbols mode at [] treated = []
spans_text form shows symbols mode at (span ∷ spans) treated =
    if shows span
    then span_text form symbols mode at span treated
    ++ spans_text form shows symbols mode (place_after at span treated) spans (after_span span treated)
    else spans_text form shows symbols mode (at + 1) spans treated

-- What comes before them: the line of the header, if there is one, or the names of the columns.
abbrev pub front_text : Form → Option Header → List ℕ
front_text (Lines rows) header = start_line header
front_text Table header = fields_line columns

-- The lines or the table of all frames and of the bytes between them.
abbrev pub treated_text : Form → Option (List ℕ) → Option Header → List Span → List TreatedInRows → List ℕ
treated_text form symbols header spans treated =
    front_text form header ++ spans_text form (λ span. true) symbols (mode_of header) 0 spans treated

-- The same of the frames of these harts. The treatments are those of these harts' messages, and places count the messages
-- of all harts.
abbrev pub treated_text_of : Form → HartRange → Option (List ℕ) → Option Header → List ℕ → List TreatedInRows → List ℕ
treated_text_of form only symbols header bytes treated =
    front_text form header
    ++ spans_text form (is_chosen only) symbols (mode_of header) 0 (spans_of header bytes) treated

-- What is written of all harts of a capture, behind a valid header or with none, is that of all its frames.
abbrev pub AllHartsAreTreated : Type 0
AllHartsAreTreated =
    (form : Form) (symbols : Option (List ℕ)) (header : Option Header) (bytes : List ℕ) (treated : List TreatedInRows)
    → IfSome header IsHeader
    → treated_text_of form every_hart symbols header bytes treated
    ≡ treated_text form symbols header (spans_of header bytes) treated
