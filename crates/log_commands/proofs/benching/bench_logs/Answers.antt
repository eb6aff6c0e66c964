-- The prover tries no chain of steps by itself: what each step found is handed to it, in order.
use Rattle.std.proofs.Common.{◌≡◌, inr, refl, sym, arith, length, map, Ok, Err}
use Rattle.std.proofs.lemmas.Grind.{common_steps}
use Rattle.bench.specs.Got.{got_of}
use Rattle.bench.specs.Report.{is_whole, report_text}
use Rattle.funnel.specs.Limits.{most_ports}
use Rattle.command_inputs.proofs.Beginnings.{printed_begun}
use Rattle.command_inputs.proofs.Runs.{ends_silently, written}
use Rattle.log_commands.specs.Benching.{BenchesLogs, CanBenchLogs}
use Rattle.log_commands.specs.Sending.{IsSetting, config_at, end_of_report}
use Rattle.log_commands.proofs.Reports.{reported}
use Rattle.log_commands.proofs.benching.bench_logs.Goals.{After-end_with_report-ended}
use Rattle.log_commands.proofs.benching.bench_logs.Goals as goal

pub end_with_report-ended-requires : goal.end_with_report-ended-requires
end_with_report-ended-requires g c = sym c.in_ok-ran.ensures.came.count

pub returns-in_err-ran-clause-printed : goal.returns-in_err-ran-clause-printed
returns-in_err-ran-clause-printed g c =
    let out = g.O.Write.contents c.args.out.now in
    let asked = c.args.asked.now in
    let logs = c.args.logs.now in
    let run = BenchesLogs asked logs in
    let can = CanBenchLogs asked logs in
    let why = c.in_err-ran.field-0.0 in
    let is : c.from_residual.result ≡ Err why = grind (arith, common_steps) in
    let config = config_at asked.period asked.mode asked.capacity in
    ends_silently run can (IsSetting most_ports (length logs) config (Err why)) why c.from_residual.result out is
    c.in_err-ran.ensures.fault (λ none. (Err why, none, refl))

module _ (g : _) (c : After-end_with_report-ended g) where
  -- The report of what is received of the logs may be printed.
  prints : BenchesLogs c.args.asked.now c.args.logs.now
      (reported c.in_ok-ran.ran.0.stop (map got_of c.in_ok-ran.ran.0.harts.items) c.args.logs.now)
  prints = (
    Ok tt,
    c.in_ok-ran.ensures.setting,
    record {
      stop = c.in_ok-ran.ran.0.stop;
      harts = c.in_ok-ran.ran.0.harts.items;
      came = c.in_ok-ran.ensures.came;
      names = c.in_ok-ran.ensures.names;
      text = refl;
      ended = refl;
    },
  )

pub returns-clause-printed : goal.returns-clause-printed
returns-clause-printed g c =
    let asked = c.args.asked.now in
    let logs = c.args.logs.now in
    let outcome = c.in_ok-ran.ran.0 in
    let gots = map got_of outcome.harts.items in
    let after = (goal.at.returns-clause-printed g c).After-end_with_report-ended in
    written (BenchesLogs asked logs) (CanBenchLogs asked logs) (report_text outcome.stop gots logs)
    (end_of_report outcome.stop (is_whole outcome.stop gots logs)) c.end_with_report-ended.result
    (g.O.Write.contents c.args.out.now) (g.O.Write.contents c.end_with_report-ended.new.out) (prints g after)
    c.in_ok-ran.ensures.setting c.end_with_report-ended.ensures.fault c.end_with_report-ended.ensures.ended
    c.end_with_report-ended.ensures.text

pub returns-clause-cut : goal.returns-clause-cut
returns-clause-cut g c =
    let logs = c.args.logs.now in
    let outcome = c.in_ok-ran.ran.0 in
    let gots = map got_of outcome.harts.items in
    let after = (goal.at.returns-clause-cut g c).After-end_with_report-ended in
    inr (printed_begun (BenchesLogs c.args.asked.now logs) (report_text outcome.stop gots logs)
    (Ok (end_of_report outcome.stop (is_whole outcome.stop gots logs))) (g.O.Write.contents c.args.out.now)
    (g.O.Write.contents c.end_with_report-ended.new.out) (prints g after) c.end_with_report-ended.ensures.begun)
