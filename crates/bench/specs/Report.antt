-- The text of a report.
use Rattle.std.specs.Prelude.{ℕ, ◌+◌, ◌++◌, ◌&&◌, Bool, true, false, is_none, List, [], ◌∷◌, Option, Some, None, codes}
use Rattle.std.specs.Prelude.{length}
use Rattle.std.specs.Fmt.{decimal}
use Rattle.legalpath.specs.ProgramLog.{ProgramLog}
use Rattle.bench.specs.Got.{Got}
use Rattle.bench.specs.Verdict.{verdict}
use Rattle.bench.specs.declared.stop.Stop.{Stop}
use Rattle.bench.specs.declared.stop.Stop.TheVariants as stop
use Rattle.bench.specs.declared.verdict.Verdict.{Verdict}
use Rattle.bench.specs.declared.verdict.Verdict.TheVariants.{Whole, Beginning, Differs}

-- The text of a verdict.
abbrev pub verdict_text : Verdict → List ℕ
verdict_text Whole = codes "whole"
verdict_text Beginning = codes "beginning"
verdict_text (Differs row) = codes "differs at row " ++ decimal row

-- The text of a hart: its number, how many events its log has, how many packets came, how many bytes their payloads
-- had, how many events were decoded, and how they compare with the log.
abbrev pub hart_text : ℕ → ℕ → ℕ → ℕ → ℕ → Verdict → List ℕ
hart_text hart events taken bytes decoded verdict =
    codes "hart " ++ (decimal hart ++ (codes ": " ++ (decimal events ++ (codes " events, "
    ++ (decimal taken ++ (codes " packets, " ++ (decimal bytes ++ (codes " payload bytes, decoded "
    ++ (decimal decoded ++ (codes ", " ++ verdict_text verdict))))))))))

-- The line of a hart in a report.
abbrev pub report_line : ℕ → Got → ProgramLog → List ℕ
report_line hart got log =
    hart_text hart (length log.events) got.taken got.bytes (length got.decoded)
    (verdict got.closed got.decoded log.events)
    ++ codes "\n"

-- The lines of harts in order. The first hart has this number.
abbrev pub report_lines : ℕ → List Got → List ProgramLog → List ℕ
report_lines hart [] logs = []
report_lines hart (got ∷ gots) [] = []
report_lines hart (got ∷ gots) (log ∷ logs) = report_line hart got log ++ report_lines (hart + 1) gots logs

-- The text of a stop.
abbrev pub stop_text : Stop → List ℕ
stop_text (stop.Memory hart) = codes "memory at hart " ++ decimal hart
stop_text (stop.HandedBack hart) = codes "handed back at hart " ++ decimal hart
stop_text (stop.Ended hart) = codes "ended at hart " ++ decimal hart

-- The line of a stop, where there is one.
abbrev pub stop_line : Option Stop → List ℕ
stop_line None = []
stop_line (Some why) = codes "stop: " ++ (stop_text why ++ codes "\n")

-- The verdict says that a log came back whole.
abbrev pub is_whole_verdict : Verdict → Bool
is_whole_verdict Whole = true
is_whole_verdict Beginning = false
is_whole_verdict (Differs row) = false

-- Every hart's log came back whole.
abbrev pub are_whole : List Got → List ProgramLog → Bool
are_whole [] logs = true
are_whole (got ∷ gots) [] = false
are_whole (got ∷ gots) (log ∷ logs) =
    is_whole_verdict (verdict got.closed got.decoded log.events) && are_whole gots logs

-- Every hart's log came back whole, and there is no stop.
abbrev pub is_whole : Option Stop → List Got → List ProgramLog → Bool
is_whole why gots logs = is_none why && are_whole gots logs

-- The line of the result.
abbrev pub result_line : Bool → List ℕ
result_line true = codes "result: whole\n"
result_line false = codes "result: not whole\n"

-- The report: a line for each hart, one for a stop where there is one, and one for the result.
abbrev pub report_text : Option Stop → List Got → List ProgramLog → List ℕ
report_text why gots logs = report_lines 0 gots logs ++ (stop_line why ++ result_line (is_whole why gots logs))
