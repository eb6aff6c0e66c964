-- The rows of an audit of messages that carry no numbers, as text or as a table.
use Rattle.std.specs.Prelude.{ℕ, ◌++◌, nat_lt, not, List, [], ◌∷◌, drop, length, take}
use Rattle.std.specs.List.{flat_map, position_or_len}
use Rattle.command_inputs.specs.declared.words.Format.{Format}
use Rattle.auditing.specs.HartRows.{longest_of}
use Rattle.auditing.specs.Counted.{counts_of}
use Rattle.auditing.specs.Matches.{Flags}
use Rattle.auditing.specs.declared.aligned_counts.HartCounts.{HartCounts}
use Rattle.auditing.specs.declared.arrival_line.Line.{Line}
use Rattle.output.specs.Fields.{fields_line}
use Rattle.path_commands.specs.AlignedRows.{aligned_fields, aligned_last, arrival_fields}
use Rattle.path_commands.specs.AuditText.{unless_summary}
use Rattle.path_commands.specs.Rows.{bytes_row, front_row, row_in, run_rows}
use Rattle.path_commands.specs.UnnumberedText.{aligned_ending, aligned_lines, arrival_text, of_selected, place_of}
use Rattle.path_commands.specs.UnnumberedText.{texts_from, unmatched_runs}
use Rattle.path_commands.specs.declared.matched_rows.MatchedTotal.{MatchedTotal}
use Rattle.path_commands.specs.declared.reading.ByteRun.{ByteRun}
use Rattle.path_commands.specs.declared.report.Report.{Report}

-- The row of a message of RECEIVED of which something is to be said.
abbrev pub arrival_row : Format → Line → List ℕ
arrival_row format one = row_in format (arrival_text one) (fields_line (arrival_fields one))

-- How many of these lines are of messages before this place, up to the first that is not.
abbrev pub count_before : ℕ → List Line → ℕ
count_before place lines = position_or_len (λ one. not (nat_lt (place_of one) place)) lines

-- The rows of messages and of runs of bytes: each run after the messages before it.
abbrev pub arrival_rows : Format → List ByteRun → List Line → List ℕ
arrival_rows format [] lines = flat_map (arrival_row format) lines
arrival_rows format (run ∷ runs) lines =
    flat_map (arrival_row format) (take (count_before run.place lines) lines)
    ++ (bytes_row format run.offset run.count
    ++ arrival_rows format runs (drop (count_before run.place lines) lines))

-- The rows of the numbers of a hart that are lost.
abbrev pub unmatched_rows : Format → ℕ → Flags → List ℕ
unmatched_rows format hart flags = run_rows format hart (unmatched_runs flags)

-- The rows of single messages, of runs of bytes and of the numbers that are lost.
abbrev pub single_rows : Format → List Flags → List ByteRun → List Line → List ℕ
single_rows format all runs lines = arrival_rows format runs lines ++ texts_from (unmatched_rows format) 0 all

-- The row of a hart: its counts, and the runs of its lost numbers and the longest of them.
abbrev pub counts_row : Format → ℕ → HartCounts → ℕ → ℕ → List ℕ
counts_row format hart counts runs longest =
    row_in format (aligned_lines hart counts runs longest) (fields_line (aligned_fields hart counts runs longest))

-- The row of a hart, by its alignment.
abbrev pub own_row : Format → ℕ → Flags → List ℕ
own_row format hart flags =
    counts_row format hart (counts_of flags) (length (unmatched_runs flags)) (longest_of (unmatched_runs flags))

-- The last rows.
abbrev pub total_row : Format → MatchedTotal → List ℕ
total_row format its = row_in format (aligned_ending its) (aligned_last its)

-- The rows of an audit, by the alignments of all harts, where no message of another hart than those that are asked for
-- is aligned, by the runs of bytes of RECEIVED and what is to be said of its messages, and by what is found of all
-- together. A summary has no rows of single messages, of runs of bytes and of numbers that are lost.
abbrev pub matched_rows : Report → List Flags → List ByteRun → List Line → MatchedTotal → List ℕ
matched_rows report all runs lines its =
    unless_summary report.summary (single_rows report.format all runs lines)
    ++ (texts_from (of_selected report.harts (own_row report.format)) 0 all ++ total_row report.format its)

-- The audit: what precedes all rows, and then these rows.
abbrev pub matched_report : Report → List Flags → List ByteRun → List Line → MatchedTotal → List ℕ
matched_report report all runs lines its = front_row report.format ++ matched_rows report all runs lines its
