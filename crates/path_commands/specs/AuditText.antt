-- The lines of an audit as text.
use Rattle.std.specs.Prelude.{ℕ, ◌+◌, ◌-◌, ◌^◌, ◌==◌, ◌||◌, ◌++◌, min, nat_lt, unwrap_or, not, Bool, true, false, if◌then◌else◌, List, [], Option}
use Rattle.std.specs.Prelude.{Some, None, codes}
use Rattle.std.specs.Fmt.{decimal}
use Rattle.std.specs.List.{list_all, sum_by}
use Rattle.message.specs.declared.header.Header.{Header}
use Rattle.message.specs.declared.message.Message.{Message}
use Rattle.receiver.specs.Agreeing.{differ}
use Rattle.auditing.specs.HartRows.{row_of}
use Rattle.auditing.specs.Tallies.{tally_of}
use Rattle.auditing.specs.declared.exchange.Exchanged.{Exchanged}
use Rattle.auditing.specs.declared.finding.Finding.{Finding}
use Rattle.auditing.specs.declared.finding.Finding.TheVariants as finding
use Rattle.auditing.specs.declared.lost.Lost.{Lost}
use Rattle.auditing.specs.declared.row.HartRow.{HartRow}
use Rattle.output.specs.Fields.{bytes_text}
use Rattle.path_commands.specs.declared.ending.Ending.{Ending}
use Rattle.path_commands.specs.declared.total.Total.{Total}

-- The payload that was sent, none where there is no such message.
abbrev pub sent_bytes : Option (List ℕ) → List ℕ
sent_bytes None = []
sent_bytes (Some payload) = payload

-- What is found of a message, where SENT has the first payload and the second came.
abbrev pub finding_text : Option (List ℕ) → List ℕ → Finding → List ℕ
finding_text sent came finding.Stranger = codes "stranger"
finding_text sent came finding.Changed =
    codes "changed, sent " ++ (bytes_text (sent_bytes sent) ++ (codes " came " ++ bytes_text came))
finding_text sent came finding.Repeat = codes "repeat"
finding_text sent came (finding.Late by) = codes "late by " ++ decimal by
finding_text sent came (finding.InOrder skips) = codes "skips " ++ decimal skips

-- The line of a message at a place of RECEIVED, with this hart and this number, of which this was found. SENT has the
-- first payload, and the second came.
abbrev pub finding_line : ℕ → ℕ → ℕ → Finding → Option (List ℕ) → List ℕ → List ℕ
finding_line place hart number its sent came =
    codes "message " ++ (decimal place ++ (codes ": hart " ++ (decimal hart ++ (codes " number "
    ++ (decimal number ++ (codes ": " ++ (finding_text sent came its ++ codes "\n")))))))

-- Lines that a summary leaves out.
abbrev pub unless_summary : Bool → List ℕ → List ℕ
unless_summary true lines = []
unless_summary false lines = lines

-- The numbers of a run of numbers that were lost.
abbrev pub numbers_text : Lost → List ℕ
numbers_text run =
    if run.first == run.last then codes ": number " ++ decimal run.first else
    codes ": numbers " ++ (decimal run.first ++ (codes " to " ++ decimal run.last))

-- The line of a run of numbers of a hart that were lost.
abbrev pub lost_line : ℕ → Lost → List ℕ
lost_line hart run = codes "hart " ++ (decimal hart ++ (numbers_text run ++ codes " lost\n"))

-- Whether a hart is whole.
abbrev pub verdict_text : Bool → List ℕ
verdict_text true = codes "whole"
verdict_text false = codes "not whole"

-- So many more, where there may be so many already.
abbrev pub and_too_late : Option ℕ → ℕ → Option ℕ
and_too_late before count = Some (min (unwrap_or before 0 + count) (2 ^ 128 - 1))

-- The same counts, of a live audit in which so many messages more were too late.
abbrev pub with_too_late : Total → ℕ → Total
with_too_late total count = record total { too_late = and_too_late total.too_late count }

-- What the row of a hart counts in an audit.
abbrev pub counted_total : HartRow → Total
counted_total row = record {
  sent = row.tally.sent;
  came = row.tally.came;
  lost = row.tally.lost;
  repeated = row.tally.repeated;
  late = row.tally.late;
  changed = row.tally.changed;
  strange = row.strange;
  too_late = None;
  whole = row.tally.whole;
}

-- What the row of a hart counts, where so many messages were too late in a live audit.
abbrev pub row_total : HartRow → Option ℕ → Total
row_total row None = counted_total row
row_total row (Some count) = with_too_late (counted_total row) count

-- How many messages were too late, in a live audit.
abbrev pub too_late_text : Option ℕ → List ℕ
too_late_text None = []
too_late_text (Some count) = decimal count ++ codes " too late, "

-- How many messages were sent and came, how many numbers are lost, how many messages were repeated, late, changed and
-- strange, in a live audit how many were too late, and whether all is whole.
abbrev pub counts_text : Total → List ℕ
counts_text total =
    decimal total.sent ++ (codes " sent, " ++ (decimal total.came ++ (codes " came, "
    ++ (decimal total.lost ++ (codes " lost, " ++ (decimal total.repeated ++ (codes " repeated, "
    ++ (decimal total.late ++ (codes " late, " ++ (decimal total.changed ++ (codes " changed, "
    ++ (decimal total.strange ++ (codes " strange, " ++ (too_late_text total.too_late ++ (verdict_text total.whole
    ++ codes "\n")))))))))))))))

-- The line of the runs of a hart's lost numbers, where there are any.
abbrev pub runs_line : ℕ → ℕ → ℕ → List ℕ
runs_line hart runs longest =
    if runs == 0 then [] else
    codes "hart " ++ (decimal hart ++ (codes ": lost in " ++ (decimal runs ++ (codes " runs, the longest of "
    ++ (decimal longest ++ codes "\n")))))

-- The line of the message of a hart that is the latest, where one is late.
abbrev pub late_line : ℕ → ℕ → List ℕ
late_line hart latest =
    if latest == 0 then [] else
    codes "hart " ++ (decimal hart ++ (codes ": late by at most " ++ (decimal latest ++ codes "\n")))

-- The line of the hart whose most of a hart's messages are that are not true, if there is one.
abbrev pub exchanged_line : ℕ → Option Exchanged → List ℕ
exchanged_line hart None = []
exchanged_line hart (Some its) =
    codes "hart " ++ (decimal hart ++ (codes ": " ++ (decimal its.count ++ (codes " of what came is hart "
    ++ (decimal its.hart ++ codes "'s\n")))))

-- The lines of a hart: its counts, in a live audit with how many messages were too late, the runs of its lost numbers, the
-- most by which one of its messages is late, and whose most of those are that are not true.
abbrev pub row_text : ℕ → HartRow → Option ℕ → List ℕ
row_text hart row too_late =
    codes "hart " ++ (decimal hart ++ (codes ": " ++ (counts_text (row_total row too_late)
    ++ (runs_line hart row.runs row.longest ++ (late_line hart row.latest ++ exchanged_line hart row.exchanged)))))

-- The line of strangers, where there are any.
abbrev pub strangers_line : ℕ → List ℕ
strangers_line count = if count == 0 then [] else codes "strangers: " ++ (decimal count ++ codes " messages\n")

-- The line of the bytes that are of no message, where there are any.
abbrev pub damage_line : ℕ → ℕ → List ℕ
damage_line bytes runs =
    if bytes == 0 then [] else codes "bytes: " ++ (decimal bytes ++ (codes " in " ++ (decimal runs ++ codes " runs\n")))

-- Two headers are not the same.
abbrev pub are_unlike : Header → Header → Bool
are_unlike header other =
    differ header.mode other.mode || not (header.period == other.period) || not (header.harts == other.harts)

-- Both captures have a header, and these differ.
abbrev pub headers_differ : Option Header → Option Header → Bool
headers_differ (Some header) (Some other) = are_unlike header other
headers_differ header other = false

-- The line for headers that differ.
abbrev pub headers_line : Bool → List ℕ
headers_line true = codes "headers differ\n"
headers_line false = []

-- The line of all harts together, where there is more than one.
abbrev pub all_line : ℕ → Total → List ℕ
all_line harts total =
    if nat_lt 1 harts then
    codes "all: " ++ counts_text total
    else []

-- The line of the first message that is not in order or skips a number, where there is one.
abbrev pub first_line : Option ℕ → List ℕ
first_line None = []
first_line (Some place) = codes "first: message " ++ (decimal place ++ codes "\n")

-- The line of the result.
abbrev pub result_line : Bool → List ℕ
result_line whole = codes "result: " ++ (verdict_text whole ++ codes "\n")

-- What follows the lines of the harts: all of them together, how many strangers came, how many bytes of no message,
-- whether headers differ, the first message that is not in order or skips a number, and the result.
abbrev pub ending_text : Ending → List ℕ
ending_text ending =
    all_line ending.harts ending.total
    ++ (strangers_line ending.strangers
    ++ (damage_line ending.bytes ending.runs
    ++ (headers_line ending.unlike ++ (first_line ending.first ++ result_line ending.whole))))

-- These harts are all whole.
abbrev pub are_whole : List Message → List Message → List ℕ → Bool
are_whole sent received harts = list_all (λ hart. (tally_of sent received hart).whole) harts

-- What a row counts, over these harts, in sum.
abbrev pub sum_of : (HartRow → ℕ) → List Message → List Message → List ℕ → ℕ
sum_of count sent received harts = sum_by (λ hart. count (row_of sent received hart)) harts

-- These harts together: the sums of what their rows count, and whether all are whole.
abbrev pub total_of : List Message → List Message → List ℕ → Total
total_of sent received harts = record {
  sent = sum_of (λ row. row.tally.sent) sent received harts;
  came = sum_of (λ row. row.tally.came) sent received harts;
  lost = sum_of (λ row. row.tally.lost) sent received harts;
  repeated = sum_of (λ row. row.tally.repeated) sent received harts;
  late = sum_of (λ row. row.tally.late) sent received harts;
  changed = sum_of (λ row. row.tally.changed) sent received harts;
  strange = sum_of (λ row. row.strange) sent received harts;
  too_late = None;
  whole = are_whole sent received harts;
}
