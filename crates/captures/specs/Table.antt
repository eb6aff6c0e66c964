-- The table of measures: a line for each hart, of numbers with commas between.
use Rattle.std.specs.Prelude.{ℕ, ◌+◌, ◌*◌, ◌/◌, ◌%◌, ◌==◌, nat_lt, if◌then◌else◌, ◌++◌, List, [], ◌∷◌, codes, length}
use Rattle.std.specs.Fmt.{decimal}
use Rattle.legalpath.specs.ProgramLog.{ProgramLog}
use Rattle.payload.specs.declared.mode.Mode.{Mode}
use Rattle.captures.specs.Measures.{measures_of_each, total}
use Rattle.captures.specs.declared.measures.Measures.{Measures}

-- The table's first line, which names its columns.
abbrev pub column_names : List ℕ
column_names =
    codes "hart,events,retirements,traps,branches,packets,support,sync,trap,address,map,notify,updiscon,"
    ++ codes "payload_bytes,longest,bits_per_retirement\n"

-- Numbers, a comma before each, and then this text.
abbrev pub columns : List ℕ → List ℕ → List ℕ
columns [] rest = rest
columns (number ∷ numbers) rest = codes "," ++ (decimal number ++ columns numbers rest)

-- This many thousandths, as an integer and three decimals.
abbrev pub thousandths_text : ℕ → List ℕ
thousandths_text n =
    decimal (n / 1000) ++ (codes "." ++ (decimal (n / 100 % 10) ++ (decimal (n / 10 % 10) ++ decimal (n % 10))))

-- How many bits of payload bytes a retirement takes: three decimals, cut off and not rounded, and nothing if nothing
-- retired.
abbrev pub bits_per_retirement : ℕ → ℕ → List ℕ
bits_per_retirement bytes retirements =
    if retirements == 0 then [] else thousandths_text (8000 * bytes / retirements)

-- The row of measures, which begins with this name.
abbrev pub measure_row : List ℕ → Measures → List ℕ
measure_row name m =
    name ++ columns
    (m.events ∷ m.retirements ∷ m.traps ∷ m.branches ∷ m.packets ∷ m.support ∷ m.sync ∷ m.trap ∷ m.address ∷ m.map
    ∷ m.notify ∷ m.updiscon ∷ m.payload_bytes ∷ m.longest ∷ [])
    (codes "," ++ (bits_per_retirement m.payload_bytes m.retirements ++ codes "\n"))

-- The rows of harts in order. The first hart has this number.
abbrev pub hart_rows : ℕ → List Measures → List ℕ
hart_rows hart [] = []
hart_rows hart (one ∷ others) = measure_row (decimal hart) one ++ hart_rows (hart + 1) others

-- The row of all harts together, if there are several.
abbrev pub total_row : List Measures → List ℕ
total_row all = if nat_lt 1 (length all) then measure_row (codes "all") (total all) else []

-- The table of these measures, one of a hart each: the names of its columns, the row of each hart, and the row of all
-- together.
abbrev pub table_of : List Measures → List ℕ
table_of all = column_names ++ (hart_rows 0 all ++ total_row all)

-- The table of logs: that of the measures of each log's hart.
abbrev pub measures_table : ℕ → Mode → List ProgramLog → List ℕ
measures_table period mode logs = table_of (measures_of_each period mode logs)
