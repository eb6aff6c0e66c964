-- The rows of an audit, as text or as a table.
use Rattle.std.specs.Prelude.{ℕ, ◌||◌, ◌++◌, if◌then◌else◌, List, [], ◌∷◌, Option, Some, None, length}
use Rattle.std.specs.List.{flat_map}
use Rattle.payload.specs.declared.by.By.{By}
use Rattle.frames.specs.declared.span.Span.{Span}
use Rattle.frames.specs.declared.span.Span.TheVariants.{Frame, Bytes}
use Rattle.message.specs.Range.{selects}
use Rattle.message.specs.declared.message.Message.{Message}
use Rattle.captures.specs.Offsets.{bytes_line}
use Rattle.frames.specs.Counted.{bytes_in, messages_in, runs_in}
use Rattle.command_inputs.specs.declared.words.Audit.{Audit}
use Rattle.command_inputs.specs.declared.words.Format.{Format}
use Rattle.command_inputs.specs.declared.words.Format.TheVariants.{Csv}
use Rattle.auditing.specs.Findings.{Found, finding_of, is_plain}
use Rattle.auditing.specs.HartRows.{row_of}
use Rattle.auditing.specs.Known.{known_all, known_one}
use Rattle.auditing.specs.Losing.{lost_runs}
use Rattle.auditing.specs.Sent.{harts_of}
use Rattle.auditing.specs.SentPayload.{payload_sent}
use Rattle.auditing.specs.declared.exchange.Exchanged.{Exchanged}
use Rattle.auditing.specs.declared.finding.Finding.{Finding}
use Rattle.auditing.specs.declared.lost.Lost.{Lost}
use Rattle.auditing.specs.declared.row.HartRow.{HartRow}
use Rattle.output.specs.Fields.{fields_line}
use Rattle.path_commands.specs.AuditRows.{bytes_fields, columns, exchanged_fields, finding_fields, hart_fields, last_rows}
use Rattle.path_commands.specs.AuditRows.{run_fields}
use Rattle.path_commands.specs.AuditText.{ending_text, finding_line, lost_line, row_text, total_of, unless_summary}
use Rattle.path_commands.specs.ReceivedCapture.{ReceivedCapture, is_whole_result}
use Rattle.path_commands.specs.OnlyHarts.{first_of, harts_among, strangers_of}
use Rattle.path_commands.specs.Sides.{Sent, heads_differ}
use Rattle.path_commands.specs.declared.ending.Ending.{Ending}
use Rattle.path_commands.specs.declared.report.Report.{Report}
use Rattle.message.specs.declared.range.HartRange.{HartRange}

-- What is reported in this format, of these harts.
abbrev pub report_of : Format → Audit → HartRange → Report
report_of format asked harts = record { format = format; harts = harts; summary = asked.summary }

-- In a table the second, and else the first.
abbrev pub row_in : Format → List ℕ → List ℕ → List ℕ
row_in Csv text row = row
row_in _ text row = text

-- What precedes all rows: in a table, the names of its columns.
abbrev pub front_row : Format → List ℕ
front_row format = row_in format [] (fields_line columns)

-- The row of a message at this place of RECEIVED, with this hart and this number, of which this was found. SENT has the
-- first payload, and the second came.
abbrev pub message_row : Format → ℕ → ℕ → ℕ → Finding → Option (List ℕ) → List ℕ → List ℕ
message_row format place hart number its sent came =
    row_in format (finding_line place hart number its sent came)
    (fields_line (finding_fields place hart number its sent came))

-- The row of a message, by what was sent.
abbrev pub found_row : Format → List Message → ℕ → Found → List ℕ
found_row format sent place one =
    message_row format place one.message.hart one.message.number one.finding
    (payload_sent sent one.message.hart one.message.number) one.message.payload

-- The row of a run of bytes of no message.
abbrev pub bytes_row : Format → ℕ → ℕ → List ℕ
bytes_row format offset count = row_in format (bytes_line offset count) (fields_line (bytes_fields offset count))

-- The row of a message. One that is in order and skips no number has none, and in a summary none has.
abbrev pub row_or_none : Report → List Message → ℕ → Found → List ℕ
row_or_none report sent place one =
    if report.summary || is_plain one.finding then [] else found_row report.format sent place one

-- The row of a message after these, or of a run of bytes. A message is compared with those that were sent by what their
-- payloads are known by, and its place counts the messages before it, whatever their harts are. One that is not of the
-- harts that are asked for has no row.
abbrev pub span_row : By → Report → List Message → List Message → Span → List ℕ
span_row how report sent before (Frame offset message) =
    if selects report.harts message.hart then
    row_or_none report sent (length before) (record {
      message = message;
      finding = finding_of (known_all how sent) (known_all how before) (known_one how message);
    })
    else []
span_row how report sent before (Bytes offset count) =
    unless_summary report.summary (bytes_row report.format offset count)

-- The rows of messages and of runs of bytes, after these messages.
abbrev pub span_rows : By → Report → List Message → List Message → List Span → List ℕ
span_rows how report sent before [] = []
span_rows how report sent before (span ∷ more) =
    span_row how report sent before span ++ span_rows how report sent (before ++ messages_in (span ∷ [])) more

-- What precedes all rows, and the rows of the messages and of the runs of bytes.
abbrev pub front_rows : By → Report → List Message → List Span → List ℕ
front_rows how report sent spans = front_row report.format ++ span_rows how report sent [] spans

-- The row of a run of numbers of a hart that were lost.
abbrev pub run_row : Format → ℕ → Lost → List ℕ
run_row format hart run = row_in format (lost_line hart run) (fields_line (run_fields hart run))

-- The rows of the runs of a hart.
abbrev pub run_rows : Format → ℕ → List Lost → List ℕ
run_rows format hart runs = flat_map (run_row format hart) runs

-- The rows of the runs of these harts.
abbrev pub all_run_rows : Format → List Message → List Message → List ℕ → List ℕ
all_run_rows format sent received harts = flat_map (λ hart. run_rows format hart (lost_runs sent received hart)) harts

-- The row of the hart whose most of a hart's messages are that are not true, if there is one.
abbrev pub exchanged_row : ℕ → Option Exchanged → List ℕ
exchanged_row hart None = []
exchanged_row hart (Some its) = fields_line (exchanged_fields hart its)

-- The row of a hart, and the one of the hart whose most of its messages are that are not true.
abbrev pub hart_row : Format → ℕ → HartRow → Option ℕ → List ℕ
hart_row format hart row too_late =
    row_in format (row_text hart row too_late) (fields_line (hart_fields hart row) ++ exchanged_row hart row.exchanged)

-- The rows of these harts.
abbrev pub hart_rows : Format → List Message → List Message → List ℕ → List ℕ
hart_rows format sent received harts = flat_map (λ hart. hart_row format hart (row_of sent received hart) None) harts

-- What is found of all messages together. Messages are compared by what their payloads are known by. Those of the harts
-- that are asked for count alone, but RECEIVED has the messages of all.
abbrev pub ending_of : By → HartRange → Sent → ReceivedCapture → Ending
ending_of how harts sent came =
    let known = known_all how sent.messages in
    let received = known_all how (messages_in came.spans) in
    let own = harts_among harts (harts_of sent.header sent.messages) in record {
      harts = length own;
      total = total_of known received own;
      messages = length (messages_in came.spans);
      strangers = strangers_of harts known received;
      bytes = bytes_in came.spans;
      runs = runs_in came.spans;
      unlike = heads_differ sent.header came.header came.fault;
      first = first_of harts known received;
      whole = is_whole_result how harts sent came;
    }

-- The last rows.
abbrev pub ending_row : Format → Ending → List ℕ
ending_row format ending = row_in format (ending_text ending) (last_rows ending)

-- The rows after those of the messages.
abbrev pub rows_behind : By → Report → Sent → ReceivedCapture → List ℕ
rows_behind how report sent came =
    let known = known_all how sent.messages in
    let received = known_all how (messages_in came.spans) in
    let own = harts_among report.harts (harts_of sent.header sent.messages) in
    unless_summary report.summary (all_run_rows report.format known received own)
    ++ (hart_rows report.format known received own
    ++ ending_row report.format (ending_of how report.harts sent came))

-- An audit: a row for each message of RECEIVED that is not in order or skips a number and for each run of bytes of no
-- message, one for each longest run of lost numbers of each hart, and the rows of each hart; then all harts together,
-- how many strangers came, how many bytes of no message, whether headers differ, which message is the first that is not
-- in order or skips a number, and the result. A table begins with the names of its columns. A summary has no rows of
-- messages and of runs. The harts are those that are asked for.
abbrev pub audit_rows : By → Report → Sent → ReceivedCapture → List ℕ
audit_rows how report sent came = front_rows how report sent.messages came.spans ++ rows_behind how report sent came
