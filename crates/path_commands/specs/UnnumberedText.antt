-- The lines of an audit of messages that carry no numbers, as text.
use Rattle.std.specs.Prelude.{ℕ, ◌+◌, ◌++◌, ◌&&◌, nat_lt, Bool, if◌then◌else◌, List, [], ◌∷◌, Option, Some, None, codes}
use Rattle.std.specs.Fmt.{decimal}
use Rattle.auditing.specs.Matches.{Flags, most_edits}
use Rattle.message.specs.Range.{selects}
use Rattle.message.specs.declared.range.HartRange.{HartRange}
use Rattle.auditing.specs.Losing.{runs_of}
use Rattle.auditing.specs.Unset.{lost_in}
use Rattle.auditing.specs.declared.lost.Lost.{Lost}
use Rattle.auditing.specs.declared.aligned_counts.AlignedTotal.{AlignedTotal}
use Rattle.auditing.specs.declared.aligned_counts.HartCounts.{HartCounts}
use Rattle.auditing.specs.declared.arrival_line.Line.{Line}
use Rattle.auditing.specs.declared.arrival_line.Line.TheVariants as line
use Rattle.path_commands.specs.AuditText.{damage_line, first_line, headers_line, result_line, runs_line, strangers_line}
use Rattle.path_commands.specs.AuditText.{verdict_text}
use Rattle.path_commands.specs.declared.matched_rows.MatchedTotal.{MatchedTotal}

-- The line of a message of RECEIVED: its place, its hart and what is to be said of it.
abbrev pub arrival_text : Line → List ℕ
arrival_text (line.Stranger place hart) =
    codes "message " ++ (decimal place ++ (codes ": hart " ++ (decimal hart ++ codes ": stranger\n")))
arrival_text (line.Extra place hart) =
    codes "message " ++ (decimal place ++ (codes ": hart " ++ (decimal hart ++ codes ": extra\n")))
arrival_text (line.Skips place hart number skips) =
    codes "message " ++ (decimal place ++ (codes ": hart " ++ (decimal hart ++ (codes " number "
    ++ (decimal number ++ (codes ": skips " ++ (decimal skips ++ codes "\n")))))))

-- The texts of harts, one after the other. The first of them is this hart.
abbrev pub texts_from : (ℕ → Flags → List ℕ) → ℕ → List Flags → List ℕ
texts_from text hart [] = []
texts_from text hart (flags ∷ more) = text hart flags ++ texts_from text (hart + 1) more

-- A text of a hart that is one of these. Any other has none.
abbrev pub of_selected : HartRange → (ℕ → Flags → List ℕ) → ℕ → Flags → List ℕ
of_selected harts text hart flags = if selects harts hart then text hart flags else []

-- The longest runs of numbers of a hart that are lost: those of SENT that are matched with nothing.
abbrev pub unmatched_runs : Flags → List Lost
unmatched_runs flags = runs_of (lost_in 0 flags.sent)

-- How many messages were sent and came, how many are lost and extra, and whether all is whole.
abbrev pub aligned_text : ℕ → ℕ → ℕ → ℕ → Bool → List ℕ
aligned_text sent came lost extra whole =
    decimal sent ++ (codes " sent, " ++ (decimal came ++ (codes " came, " ++ (decimal lost ++ (codes " lost, "
    ++ (decimal extra ++ (codes " extra, " ++ (verdict_text whole ++ codes "\n"))))))))

-- The line of what is counted of a hart.
abbrev pub aligned_row : ℕ → HartCounts → List ℕ
aligned_row hart counts =
    codes "hart " ++ (decimal hart ++ (codes ": "
    ++ aligned_text counts.sent counts.came counts.lost counts.extra counts.whole))

-- More messages of a hart may match: the search for matches did not come to its end, and some are lost and some extra.
abbrev pub may_match_more : HartCounts → Bool
may_match_more counts =
    nat_lt 0 counts.lost && nat_lt 0 counts.extra && nat_lt most_edits (counts.lost + counts.extra)

-- The line of a hart of which more messages may match.
abbrev pub more_line : ℕ → HartCounts → List ℕ
more_line hart counts =
    if may_match_more counts then
    codes "hart " ++ (decimal hart ++ (codes ": more than " ++ (decimal most_edits
    ++ codes " lost and extra, more may match\n")))
    else []

-- The lines of a hart: its counts, the runs of its lost numbers and the longest of them, and whether more may match.
abbrev pub aligned_lines : ℕ → HartCounts → ℕ → ℕ → List ℕ
aligned_lines hart counts runs longest =
    aligned_row hart counts ++ (runs_line hart runs longest ++ more_line hart counts)

-- The line of all harts together, where there is more than one.
abbrev pub aligned_all : ℕ → AlignedTotal → List ℕ
aligned_all harts total =
    if nat_lt 1 harts then
    codes "all: " ++ aligned_text total.sent total.came total.lost total.extra total.whole
    else []

-- The hart of the message that a line is of.
abbrev pub hart_of : Line → ℕ
hart_of (line.Stranger place hart) = hart
hart_of (line.Extra place hart) = hart
hart_of (line.Skips place hart number skips) = hart

-- The place of the message that a line is of.
abbrev pub place_of : Line → ℕ
place_of (line.Stranger place hart) = place
place_of (line.Extra place hart) = place
place_of (line.Skips place hart number skips) = place

-- The place of the message that the first of these lines is of, if there is one.
abbrev pub first_place_of : List Line → Option ℕ
first_place_of [] = None
first_place_of (one ∷ more) = Some (place_of one)

-- What follows the lines of the harts: all of them together, how many strangers came, how many bytes of no message,
-- whether headers differ, the first message that is a stranger, is extra or skips a number, and the result.
abbrev pub aligned_ending : MatchedTotal → List ℕ
aligned_ending its =
    aligned_all its.harts its.total
    ++ (strangers_line its.strangers
    ++ (damage_line its.bytes its.runs
    ++ (headers_line its.unlike ++ (first_line its.first ++ result_line its.whole))))
