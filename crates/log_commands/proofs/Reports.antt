-- The report of what is received of logs, as it is printed.
use Rattle.std.proofs.Common.{List, Option, Ok}
use Rattle.legalpath.specs.ProgramLog.{ProgramLog}
use Rattle.bench.specs.Got.{Got}
use Rattle.bench.specs.Report.{is_whole, report_text}
use Rattle.bench.specs.declared.stop.Stop.{Stop}
use Rattle.log_commands.specs.Faults.{Printed}
use Rattle.log_commands.specs.Sending.{end_of_report}

-- The text of a report, and how it ends.
abbrev pub reported : Option Stop → List Got → List ProgramLog → Printed
reported stop gots logs =
    record { text = report_text stop gots logs; ended = Ok (end_of_report stop (is_whole stop gots logs)) }
