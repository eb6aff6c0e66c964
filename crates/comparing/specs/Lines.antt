-- The line of a hart whose log was compared.
use Rattle.std.specs.Prelude.{ℕ, ◌++◌, Bool, List, codes, length}
use Rattle.bench.specs.Got.{Got}
use Rattle.bench.specs.Report.{hart_text, is_whole_verdict}
use Rattle.bench.specs.Verdict.{verdict}
use Rattle.legalpath.specs.ProgramLog.{ProgramLog}
use Rattle.bench.specs.declared.hart_line.ComparedHart.{ComparedHart}

-- The line of a hart by what was decoded of it and its log.
abbrev pub line_of : ℕ → Got → ProgramLog → ComparedHart
line_of hart got log = record {
  hart = hart;
  events = length log.events;
  taken = got.taken;
  bytes = got.bytes;
  decoded = length got.decoded;
  verdict = verdict got.closed got.decoded log.events;
}

-- The text of a line.
abbrev pub line_text : ComparedHart → List ℕ
line_text line =
    hart_text line.hart line.events line.taken line.bytes line.decoded line.verdict ++ codes "\n"

-- The log of the hart came back whole.
abbrev pub is_whole_line : ComparedHart → Bool
is_whole_line line = is_whole_verdict line.verdict
