-- What `bench` prints, and how it ends.
use Rattle.std.specs.Prelude.{◌≡◌, List, Option, Ok, length, map}
use Rattle.std.specs.declared.alloc.Global.{Global}
use Rattle.funnel.specs.Limits.{most_ports}
use Rattle.legalpath.specs.ProgramLog.{ProgramLog}
use Rattle.bench.specs.Beginnings.{AreBeginnings}
use Rattle.bench.specs.Got.{got_of}
use Rattle.bench.specs.Report.{is_whole, report_text}
use Rattle.bench.specs.Stopping.{NamesOpen}
use Rattle.bench.specs.declared.config.Config.{Config}
use Rattle.bench.specs.declared.outcome.HartOutcome.{HartOutcome}
use Rattle.bench.specs.declared.stop.Stop.{Stop}
use Rattle.command_inputs.specs.declared.words.Bench.{Bench}
use Rattle.command_inputs.specs.FurtherPieces.{base_number}
use Rattle.command_inputs.specs.FoundLogs.{AreAskedLogs}
use Rattle.log_streams.specs.Known.{Content}
use Rattle.command_inputs.specs.Meaning.{writing_at_once}
use Rattle.command_inputs.specs.Order.{logs_fault}
use Rattle.command_inputs.specs.Printed.{First}
use Rattle.log_commands.specs.Faults.{Meaning, Once, Printed}
use Rattle.log_commands.specs.Sending.{IsSetting, config_at, end_of_report}

-- The report of some harts is written. What is received of each hart is what a prefix of its log's packets gives. There
-- is no stop if and only if every closing packet was received, and else the stop names a hart whose closing packet was
-- not.
pub record WritesOutcome (config : Config) (logs : List ProgramLog) (printed : Printed) : Type 0 where
  pub stop : Option Stop
  pub harts : List (HartOutcome Global)
  pub came : AreBeginnings config logs harts
  pub names : NamesOpen stop harts
  pub text : printed.text ≡ report_text stop (map got_of harts) logs
  pub ended : printed.ended ≡ Ok (end_of_report stop (is_whole stop (map got_of harts) logs))

-- Where the logs may be sent with these settings, the report of what is received of them is written.
abbrev pub BenchesLogs : Bench → List ProgramLog → Printed → Type 0
BenchesLogs asked logs =
    First (IsSetting most_ports (length logs) (config_at asked.period asked.mode asked.capacity)) (λ _.
    WritesOutcome (config_at asked.period asked.mode asked.capacity) logs)

-- The bases are looked at first, then the count of logs, the image with its further pieces, and each log. Where there
-- is no fault, the logs are sent, and a report is written.
abbrev pub Benches : Content → Bench → Printed → Type 0
Benches content asked =
    First (AreAskedLogs content most_ports asked.program asked.logs.items)
    (BenchesLogs asked)

-- The report of what is received of these logs is written once it is found that they may be sent.
abbrev pub CanBenchLogs : Bench → List ProgramLog → Type 0
CanBenchLogs asked logs =
    IsSetting most_ports (length logs) (config_at asked.period asked.mode asked.capacity) (Ok tt)

-- `bench` writes once it has the legal logs, and they may be sent.
abbrev pub CanBench : Content → Bench → Type 0
CanBench content asked =
    Once (AreAskedLogs content most_ports asked.program asked.logs.items)
    (CanBenchLogs asked)

-- What `bench` means. There may be as many logs as ports of the funnel.
abbrev pub bench_meaning : Bench → Meaning
bench_meaning asked = writing_at_once
    (logs_fault most_ports (base_number asked.program) (length asked.logs.items))
    (λ content. Benches content asked) (λ content. CanBench content asked)
