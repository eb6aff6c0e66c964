-- The line of a hart whose log was compared, and below it where the log is not what was decoded.
use Rattle.std.specs.Borrow.{Bor}
use Rattle.std.specs.Prelude.{ℕ, ◌+◌, ◌-◌, ◌++◌, ◌&&◌, Bool, true, false, List, [], ◌∷◌, Option, Some, None, codes, is_none}
use Rattle.std.specs.Prelude.{if◌then◌else◌, option_map}
use Rattle.std.specs.Fmt.{decimal}
use Rattle.std.specs.List.{flat_map, join_with_byte, list_all}
use Rattle.bench.specs.Got.{Got}
use Rattle.bench.specs.Report.{result_line}
use Rattle.bench.specs.Verdict.{count_alike}
use Rattle.captures.specs.declared.outcome.CaptureFault.{CaptureFault}
use Rattle.legalpath.specs.ProgramLog.{ProgramLog}
use Rattle.retire.specs.Events.{place}
use Rattle.retire.specs.LogText.{event_fields}
use Rattle.retire.specs.declared.event.Event.{Event}
use Rattle.symbols.specs.SymbolText.{name_text}
use Rattle.comparing.specs.Lines.{is_whole_line, line_of, line_text}
use Rattle.comparing.specs.RowsAbout.{near_rows}
use Rattle.comparing.specs.SourceTexts.{source_text}
use Rattle.comparing.specs.declared.explained.ExplainedHart.{ExplainedHart}
use Rattle.comparing.specs.declared.explained.RowKind.{RowKind}
use Rattle.comparing.specs.declared.explained.RowKind.TheVariants.{Both, Decoded, Log}
use Rattle.comparing.specs.declared.explanation.Explaining.{Explaining}
use Rattle.comparing.specs.declared.sourcing.SourcedHart.{SourcedHart}

-- The text of an event's row, as a log has it.
abbrev pub event_text : Event → List ℕ
event_text event = join_with_byte 44 (event_fields event)

-- The text of a row, or that there is none.
abbrev pub row_text : Option Event → List ℕ
row_text None = codes "end"
row_text (Some event) = event_text event

-- What a row is one of, as its line has it.
abbrev pub name_of : RowKind → List ℕ
name_of Both = codes ": both "
name_of Log = codes ": log "
name_of Decoded = codes ": decoded "

-- The line of a row of a hart, up to what its place is named: what it is a row of, and its text.
abbrev pub row_start : ℕ → ℕ → RowKind → Option Event → List ℕ
row_start hart row kind event =
    codes "hart " ++ (decimal hart ++ (codes ": row " ++ (decimal row ++ (name_of kind ++ row_text event))))

-- What the place of a row is named by the symbols of a file, if there is a row and one is given.
abbrev pub row_name : Option (List ℕ) → Option Event → List ℕ
row_name symbols None = []
row_name symbols (Some event) = name_text symbols (place event)

-- The line of a row.
abbrev pub row_line : Option (List ℕ) → ℕ → ℕ → RowKind → Option Event → List ℕ
row_line symbols hart row kind event = row_start hart row kind event ++ (row_name symbols event ++ codes "\n")

-- The line of a row that both the log and the decoded events have, so many before the first difference, if there is such
-- a row.
abbrev pub both_line : Option (List ℕ) → ExplainedHart → ℕ → Option Event → List ℕ
both_line symbols hart many None = []
both_line symbols hart many (Some event) = row_line symbols hart.line.hart (hart.row - many) Both (Some event)

-- The lines of the three rows before the first difference, as many as there are.
abbrev pub three_lines : Option (List ℕ) → ExplainedHart → List ℕ
three_lines symbols hart =
    both_line symbols hart 3 hart.near.three_before
    ++ (both_line symbols hart 2 hart.near.two_before ++ both_line symbols hart 1 hart.near.one_before)

-- The same, if they are wanted.
abbrev pub before_lines : Bool → Option (List ℕ) → ExplainedHart → List ℕ
before_lines false symbols hart = []
before_lines true symbols hart = three_lines symbols hart

-- The lines of the row of the log and of the decoded one.
abbrev pub rows_lines : Option (List ℕ) → ExplainedHart → List ℕ
rows_lines symbols hart =
    row_line symbols hart.line.hart hart.row Log hart.near.log
    ++ row_line symbols hart.line.hart hart.row Decoded hart.near.decoded

-- The line of the message that the row comes from, where decoding stops there.
abbrev pub source_line : Option (ℕ × CaptureFault) → SourcedHart → List ℕ
source_line stop one =
    codes "hart " ++ (decimal one.hart.line.hart ++ (codes ": row " ++ (decimal one.hart.row ++
    (codes ": " ++ (source_text stop one.source ++ codes "\n")))))

-- What is below the line of a hart whose log did not come back whole: the rows before the first difference, if they are
-- wanted, that row of the log and the decoded one, and the message that it comes from.
abbrev pub differing_lines : Bool → Option (List ℕ) → Option (ℕ × CaptureFault) → SourcedHart → List ℕ
differing_lines before symbols stop one =
    before_lines before symbols one.hart ++ (rows_lines symbols one.hart ++ source_line stop one)

-- What is below the line of a hart: nothing, where its log came back whole.
abbrev pub below_text : Bool → Option (List ℕ) → Option (ℕ × CaptureFault) → SourcedHart → List ℕ
below_text before symbols stop one =
    if is_whole_line one.hart.line then [] else differing_lines before symbols stop one

-- The line of a hart, and what is below it.
abbrev pub hart_lines : Bool → Option (List ℕ) → Option (ℕ × CaptureFault) → SourcedHart → List ℕ
hart_lines before symbols stop one = line_text one.hart.line ++ below_text before symbols stop one

-- The log of the hart came back whole.
abbrev pub is_whole_hart : ExplainedHart → Bool
is_whole_hart hart = is_whole_line hart.line

abbrev pub is_whole_sourced : SourcedHart → Bool
is_whole_sourced one = is_whole_hart one.hart

-- All logs came back whole, and decoding came to the end.
abbrev pub are_whole_sourced : Bool → List SourcedHart → Bool
are_whole_sourced ended harts = ended && list_all is_whole_sourced harts

-- What is written of harts: the lines of each, and the one of the result.
abbrev pub explained_text : Bool → Option (List ℕ) → Option (ℕ × CaptureFault) → List SourcedHart → List ℕ
explained_text before symbols stop harts =
    flat_map (hart_lines before symbols stop) harts ++ result_line (are_whole_sourced (is_none stop) harts)

-- The file of symbols by which places are named, if one is given.
abbrev pub names_in : {S : Type 0} → Explaining S → Option (List ℕ)
names_in how = option_map (λ (file : Bor (List ℕ)). file.now) how.symbols

-- What is said of a hart by what was decoded of it and its log.
abbrev pub explained_hart : ℕ → Got → ProgramLog → ExplainedHart
explained_hart hart got log = record {
  line = line_of hart got log;
  row = count_alike got.decoded log.events + 1;
  near = near_rows got.decoded log.events;
}

-- The same of harts in order. The first hart has this number.
abbrev pub explained_harts : ℕ → List Got → List ProgramLog → List ExplainedHart
explained_harts hart [] logs = []
explained_harts hart (got ∷ gots) [] = []
explained_harts hart (got ∷ gots) (log ∷ logs) = explained_hart hart got log ∷ explained_harts (hart + 1) gots logs
