-- What `audit --unnumbered` prints of RECEIVED, and how it ends.
use Rattle.std.specs.Prelude.{ℕ, ◌≡◌, ◌+◌, ◌==◌, ◌&&◌, nat_lt, not, Bool, List, [], ◌∷◌, Option, Result, length, map}
use Rattle.std.specs.List.{count_by, filter}
use Rattle.auditing.specs.Matches.{Flags}
use Rattle.message.specs.Range.{selected, selects}
use Rattle.message.specs.declared.range.HartRange.{HartRange}
use Rattle.message.specs.declared.header.Header.{Header}
use Rattle.message.specs.declared.message.Message.{Message}
use Rattle.frames.specs.Counted.{bytes_in, messages_in, runs_in}
use Rattle.frames.specs.declared.span.Span.{Span}
use Rattle.frames.specs.declared.span.Span.TheVariants.{Frame, Bytes}
use Rattle.command_inputs.specs.declared.words.Audit.{Audit}
use Rattle.command_inputs.specs.declared.words.Format.{Format}
use Rattle.auditing.specs.Sent.{harts_of}
use Rattle.auditing.specs.Aligned.{AreAligned}
use Rattle.auditing.specs.Arrivals.{arrival_lines}
use Rattle.auditing.specs.Counted.{total_of}
use Rattle.auditing.specs.declared.arrival_line.Line.{Line}
use Rattle.command_inputs.specs.Faults.{Path}
use Rattle.command_inputs.specs.declared.status.Status.{Status}
use Rattle.path_commands.specs.Faults.{Fault, Printed}
use Rattle.path_commands.specs.MatchedRows.{matched_report}
use Rattle.path_commands.specs.OnlyHarts.{harts_among}
use Rattle.path_commands.specs.ReceivedCapture.{IsReadByPayloads, ReceivedCapture, is_undamaged}
use Rattle.path_commands.specs.Rows.{report_of}
use Rattle.path_commands.specs.Sides.{Sent, by_packets, end_of_audit, heads_differ}
use Rattle.path_commands.specs.UnnumberedText.{first_place_of, hart_of}
use Rattle.path_commands.specs.declared.matched_rows.MatchedTotal.{MatchedTotal}
use Rattle.path_commands.specs.declared.reading.ByteRun.{ByteRun}
use Rattle.path_commands.specs.declared.report.Report.{Report}

-- How many of these messages are strangers of these harts: of no hart of so many.
abbrev pub strangers_among : HartRange → ℕ → List Message → ℕ
strangers_among harts count messages =
    count_by (λ (message : Message). selects harts message.hart && not (nat_lt message.hart count)) messages

-- The result is whole, of these harts, by SENT's header and the alignments: every hart is whole, no stranger of these
-- came, headers do not differ, and RECEIVED is read without damage.
abbrev pub is_whole_unnumbered : HartRange → Option Header → ReceivedCapture → List Flags → Bool
is_whole_unnumbered harts header came all =
    (total_of all).whole && (strangers_among harts (length all) (messages_in came.spans) == 0)
    && not (heads_differ header came.header came.fault) && is_undamaged came

-- What is to be said of the messages of these harts in RECEIVED, by the alignments. Their places count the messages of
-- all harts.
abbrev pub lines_of : HartRange → ReceivedCapture → List Flags → List Line
lines_of harts came all =
    filter (λ one. selects harts (hart_of one))
    (arrival_lines all (map (λ (message : Message). message.hart) (messages_in came.spans)))

-- The runs of bytes, each with the count of the messages before it. So many are before the first span.
abbrev pub byte_runs : ℕ → List Span → List ByteRun
byte_runs place [] = []
byte_runs place (Frame offset message ∷ spans) = byte_runs (place + 1) spans
byte_runs place (Bytes offset count ∷ spans) =
    record { place = place; offset = offset; count = count } ∷ byte_runs place spans

-- What is found of all messages of these harts together, by SENT's header and the alignments.
abbrev pub matched_total : HartRange → Option Header → ReceivedCapture → List Flags → MatchedTotal
matched_total harts header came all = record {
  harts = length (harts_among harts (length all));
  total = total_of all;
  messages = length (messages_in came.spans);
  strangers = strangers_among harts (length all) (messages_in came.spans);
  bytes = bytes_in came.spans;
  runs = runs_in came.spans;
  unlike = heads_differ header came.header came.fault;
  first = first_place_of (lines_of harts came all);
  whole = is_whole_unnumbered harts header came all;
}

-- The audit, by SENT's header and the alignments.
abbrev pub unnumbered_audit : Report → Option Header → ReceivedCapture → List Flags → List ℕ
unnumbered_audit report header came all =
    matched_report report all (byte_runs 0 came.spans) (lines_of report.harts came all)
    (matched_total report.harts header came all)

-- How the audit of these harts ends, by SENT's header and the alignments.
abbrev pub end_of_unnumbered : Path → HartRange → Option Header → ReceivedCapture → List Flags → Result Status Fault
end_of_unnumbered received harts header came all =
    end_of_audit received came.fault (is_whole_unnumbered harts header came all)

-- What became of the messages of these harts of SENT in these bytes of RECEIVED is written in this format, by the
-- payloads alone: the messages of these harts are aligned, and the text and the end are those of the alignments. Of
-- another hart none is.
pub record WritesAligned (format : Format) (asked : Audit) (harts : HartRange) (sent : Sent) (bytes : List ℕ)
    (printed : Printed) : Type 0 where
  pub came : ReceivedCapture
  pub is_came : IsReadByPayloads (by_packets asked.packets) sent.messages bytes came
  pub all : List Flags
  pub aligned : AreAligned (by_packets asked.packets) (harts_of sent.header sent.messages)
      (selected harts sent.messages) (selected harts (messages_in came.spans)) all
  pub text : printed.text ≡ unnumbered_audit (report_of format asked harts) sent.header came all
  pub ended : printed.ended ≡ end_of_unnumbered asked.received harts sent.header came all
