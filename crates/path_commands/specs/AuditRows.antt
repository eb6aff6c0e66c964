-- The fields of the rows of an audit as a table.
use Rattle.std.specs.Prelude.{ℕ, ◌-◌, ◌++◌, Bool, true, false, List, [], ◌∷◌, Option, codes}
use Rattle.std.specs.Fmt.{decimal}
use Rattle.auditing.specs.declared.exchange.Exchanged.{Exchanged}
use Rattle.auditing.specs.declared.finding.Finding.{Finding}
use Rattle.auditing.specs.declared.finding.Finding.TheVariants as finding
use Rattle.auditing.specs.declared.lost.Lost.{Lost}
use Rattle.auditing.specs.declared.row.HartRow.{HartRow}
use Rattle.output.specs.Fields.{bytes_text, fields_line, number_field}
use Rattle.path_commands.specs.AuditText.{sent_bytes, verdict_text}
use Rattle.path_commands.specs.declared.ending.Ending.{Ending}
use Rattle.path_commands.specs.declared.total.Total.{Total}

-- The columns of the table.
abbrev pub columns : List (List ℕ)
columns =
    codes "kind" ∷ codes "place" ∷ codes "offset" ∷ codes "hart" ∷ codes "number" ∷ codes "last" ∷ codes "fate"
    ∷ codes "by" ∷ codes "sent_payload" ∷ codes "came_payload" ∷ codes "sent" ∷ codes "came" ∷ codes "lost"
    ∷ codes "repeated" ∷ codes "late" ∷ codes "changed" ∷ codes "strange" ∷ codes "runs" ∷ codes "longest_run"
    ∷ codes "most_late" ∷ codes "verdict" ∷ codes "missing" ∷ []

-- The fields of the columns from `sent` on, where none of them applies.
abbrev pub no_counts : List (List ℕ)
no_counts = [] ∷ [] ∷ [] ∷ [] ∷ [] ∷ [] ∷ [] ∷ [] ∷ [] ∷ [] ∷ [] ∷ [] ∷ []

-- The fields of a message: its place, its hart, its number, its fate, by how much it is late or how many numbers it
-- skips, and both payloads.
abbrev pub message_fields : ℕ → ℕ → List ℕ → List ℕ → List ℕ → List ℕ → List ℕ → List (List ℕ)
message_fields place hart number fate by sent came =
    codes "message" ∷ decimal place ∷ [] ∷ decimal hart ∷ number ∷ [] ∷ fate ∷ by ∷ sent ∷ came ∷ no_counts

-- The field of a message's fate.
abbrev pub fate_field : Finding → List ℕ
fate_field finding.Stranger = codes "stranger"
fate_field finding.Changed = codes "changed"
fate_field finding.Repeat = codes "repeat"
fate_field (finding.Late by) = codes "late"
fate_field (finding.InOrder skips) = codes "skips"

-- By how much a message is late, or how many numbers it skips.
abbrev pub by_field : Finding → List ℕ
by_field (finding.Late by) = decimal by
by_field (finding.InOrder skips) = decimal skips
by_field other = []

-- The payload that was sent, where another one came.
abbrev pub sent_field : Option (List ℕ) → Finding → List ℕ
sent_field sent finding.Changed = bytes_text (sent_bytes sent)
sent_field sent other = []

-- The payload that came, where another one was sent.
abbrev pub came_field : List ℕ → Finding → List ℕ
came_field came finding.Changed = bytes_text came
came_field came other = []

-- The fields of a message with this hart and this number, of which this was found. SENT has the first payload, and the
-- second came.
abbrev pub finding_fields : ℕ → ℕ → ℕ → Finding → Option (List ℕ) → List ℕ → List (List ℕ)
finding_fields place hart number its sent came =
    message_fields place hart (decimal number) (fate_field its) (by_field its) (sent_field sent its) (came_field came its)

-- The fields of a run of bytes of no message: its offset, and how many bytes it has.
abbrev pub bytes_fields : ℕ → ℕ → List (List ℕ)
bytes_fields offset count =
    codes "bytes" ∷ [] ∷ decimal offset ∷ [] ∷ [] ∷ [] ∷ [] ∷ decimal count ∷ [] ∷ [] ∷ no_counts

-- The fields of a run of numbers of a hart that were lost: the first of them and the last.
abbrev pub run_fields : ℕ → Lost → List (List ℕ)
run_fields hart run =
    codes "run" ∷ [] ∷ [] ∷ decimal hart ∷ decimal run.first ∷ decimal run.last ∷ [] ∷ [] ∷ [] ∷ [] ∷ no_counts

-- The fields of these counts, from `sent` to `strange`, with a comma between each two.
abbrev pub counts_fields : Total → List ℕ
counts_fields total =
    decimal total.sent ++ (codes "," ++ (decimal total.came ++ (codes "," ++ (decimal total.lost ++ (codes ","
    ++ (decimal total.repeated ++ (codes "," ++ (decimal total.late ++ (codes "," ++ (decimal total.changed
    ++ (codes "," ++ decimal total.strange)))))))))))

-- How many messages are lost, and nothing came in their place, where so many of the lost ones are counted, and so many
-- that came changed.
abbrev pub missing_field : ℕ → ℕ → List ℕ
missing_field lost changed = decimal (lost - changed)

-- The fields of a hart: its counts, the runs of its lost numbers and the longest of them, the most by which one of its
-- messages is late, and how many are missing.
abbrev pub hart_fields : ℕ → HartRow → List (List ℕ)
hart_fields hart row =
    codes "hart" ∷ [] ∷ [] ∷ decimal hart ∷ [] ∷ [] ∷ [] ∷ [] ∷ [] ∷ []
    ∷ decimal row.tally.sent ∷ decimal row.tally.came ∷ decimal row.tally.lost ∷ decimal row.tally.repeated
    ∷ decimal row.tally.late ∷ decimal row.tally.changed ∷ decimal row.strange ∷ decimal row.runs ∷ decimal row.longest
    ∷ decimal row.latest ∷ verdict_text row.tally.whole ∷ missing_field row.tally.lost row.tally.changed ∷ []

-- The fields of the hart whose most of a hart's messages are that are not true: the hart's number, the other's, and how
-- many messages they are.
abbrev pub exchanged_fields : ℕ → Exchanged → List (List ℕ)
exchanged_fields hart its =
    codes "exchanged" ∷ [] ∷ [] ∷ decimal hart ∷ decimal its.hart ∷ [] ∷ [] ∷ decimal its.count ∷ [] ∷ [] ∷ no_counts

-- The fields of all harts together: the sums of their counts.
abbrev pub all_fields : Total → List (List ℕ)
all_fields total =
    codes "all" ∷ [] ∷ [] ∷ [] ∷ [] ∷ [] ∷ [] ∷ [] ∷ [] ∷ []
    ∷ decimal total.sent ∷ decimal total.came ∷ decimal total.lost ∷ decimal total.repeated
    ∷ decimal total.late ∷ decimal total.changed ∷ decimal total.strange ∷ [] ∷ [] ∷ [] ∷ verdict_text total.whole
    ∷ missing_field total.lost total.changed ∷ []

-- Whether headers differ.
abbrev pub headers_field : Bool → List ℕ
headers_field true = codes "headers differ"
headers_field false = []

-- The fields of the result: how many messages RECEIVED has, the place of the first that has a row, whether headers
-- differ, how many bytes are of no message, how many strangers came, in how many runs the bytes are, and whether the
-- result is whole.
abbrev pub result_fields : ℕ → Option ℕ → Bool → ℕ → ℕ → ℕ → Bool → List (List ℕ)
result_fields messages first unlike bytes strangers runs whole =
    codes "result" ∷ decimal messages ∷ [] ∷ [] ∷ number_field first ∷ [] ∷ headers_field unlike ∷ decimal bytes
    ∷ [] ∷ [] ∷ [] ∷ [] ∷ [] ∷ [] ∷ [] ∷ [] ∷ decimal strangers ∷ decimal runs ∷ [] ∷ [] ∷ verdict_text whole ∷ [] ∷ []

-- The last rows: all harts together, and the result.
abbrev pub last_rows : Ending → List ℕ
last_rows ending =
    fields_line (all_fields ending.total)
    ++ fields_line (result_fields ending.messages ending.first ending.unlike ending.bytes ending.strangers ending.runs
    ending.whole)
