-- The prover tries no chain of steps by itself: what each step found is handed to it, in order.
use Rattle.std.proofs.Common.{◌≡◌, inr, refl, subst, arith, length, map, Ok, Err}
use Rattle.std.proofs.lemmas.Grind.{common_steps}
use Rattle.bench.specs.Got.{got_of}
use Rattle.bench.specs.Replayed.{replayed}
use Rattle.bench.specs.Report.{is_whole, report_text}
use Rattle.message.specs.Version.{most_harts}
use Rattle.message.specs.declared.header.Version.TheVariants.{Two}
use Rattle.command_inputs.proofs.Beginnings.{printed_begun}
use Rattle.command_inputs.proofs.Runs.{ends_silently, written}
use Rattle.log_commands.specs.Replaying.{CanReplayLogs, AreGot, IsSchedule, ReplaysLogs}
use Rattle.log_commands.specs.Sending.{IsSetting, config_at, end_of_report}
use Rattle.log_commands.proofs.Reports.{reported}
use Rattle.log_commands.proofs.replaying.replay_logs.Goals.{After-end_with_report}
use Rattle.log_commands.proofs.replaying.replay_logs.Goals as goal

pub returns-in_err-turns-clause-printed : goal.returns-in_err-turns-clause-printed
returns-in_err-turns-clause-printed g c =
    let out = g.O.Write.contents c.args.out.now in
    let asked = c.args.asked.now in
    let logs = c.args.logs.now in
    let content = g.F.Files.content c.args.files.now in
    let run = ReplaysLogs content asked logs in
    let can = CanReplayLogs content asked logs in
    let why = c.in_err-turns.field-0.0 in
    let is : c.from_residual.result ≡ Err why = grind (arith, common_steps) in
    ends_silently run can (IsSchedule content (length logs) asked.schedule (Err why)) why c.from_residual.result out is
    c.in_err-turns.ensures.fault (λ none. (Err why, none, refl))

pub returns-in_err-outcome-clause-printed : goal.returns-in_err-outcome-clause-printed
returns-in_err-outcome-clause-printed g c =
    let out = g.O.Write.contents c.args.out.now in
    let asked = c.args.asked.now in
    let logs = c.args.logs.now in
    let content = g.F.Files.content c.args.files.now in
    let run = ReplaysLogs content asked logs in
    let can = CanReplayLogs content asked logs in
    let why = c.in_err-outcome.field-0.0 in
    let is : c.from_residual-in_err-outcome.result ≡ Err why = grind (arith, common_steps) in
    let config = config_at asked.period asked.mode asked.capacity in
    ends_silently run can (IsSetting (most_harts Two) (length logs) config (Err why)) why
    c.from_residual-in_err-outcome.result out is c.in_err-outcome.ensures.fault
    (λ none. (Ok c.in_ok-turns.turns.items, c.in_ok-turns.ensures.turns, (Err why, none, refl)))

module _ (g : _) (c : After-end_with_report g) where
  -- The report of what is received of the logs may be printed.
  prints : ReplaysLogs (g.F.Files.content c.args.files.now) c.args.asked.now c.args.logs.now
      (reported c.in_ok-outcome.outcome.stop (map got_of c.in_ok-outcome.outcome.harts.items) c.args.logs.now)
  prints =
      let asked = c.args.asked.now in
      let logs = c.args.logs.now in
      let outcome = c.in_ok-outcome.outcome in
      let gots = map got_of outcome.harts.items in
      let came = subst (λ turns. AreGot asked.period asked.mode logs
      (replayed asked.period asked.mode asked.capacity logs turns).taken outcome.stop gots)
      c.as_slice.ensures.value c.in_ok-outcome.ensures.came in (
        Ok c.in_ok-turns.turns.items,
        c.in_ok-turns.ensures.turns,
        (
          Ok tt,
          c.in_ok-outcome.ensures.setting,
          record { stop = outcome.stop; gots = gots; came = came; text = refl; ended = refl },
        ),
      )

pub returns-clause-printed : goal.returns-clause-printed
returns-clause-printed g c =
    let asked = c.args.asked.now in
    let logs = c.args.logs.now in
    let content = g.F.Files.content c.args.files.now in
    let outcome = c.in_ok-outcome.outcome in
    let gots = map got_of outcome.harts.items in
    let after = (goal.at.returns-clause-printed g c).After-end_with_report in
    let can : CanReplayLogs content asked logs =
    (c.in_ok-turns.turns.items, c.in_ok-turns.ensures.turns, c.in_ok-outcome.ensures.setting) in
    written (ReplaysLogs content asked logs) (CanReplayLogs content asked logs) (report_text outcome.stop gots logs)
    (end_of_report outcome.stop (is_whole outcome.stop gots logs)) c.end_with_report.result
    (g.O.Write.contents c.args.out.now) (g.O.Write.contents c.end_with_report.new.out) (prints g after) can
    c.end_with_report.ensures.fault c.end_with_report.ensures.ended c.end_with_report.ensures.text

pub returns-clause-cut : goal.returns-clause-cut
returns-clause-cut g c =
    let logs = c.args.logs.now in
    let outcome = c.in_ok-outcome.outcome in
    let gots = map got_of outcome.harts.items in
    let after = (goal.at.returns-clause-cut g c).After-end_with_report in
    inr (printed_begun (ReplaysLogs (g.F.Files.content c.args.files.now) c.args.asked.now logs)
    (report_text outcome.stop gots logs) (Ok (end_of_report outcome.stop (is_whole outcome.stop gots logs)))
    (g.O.Write.contents c.args.out.now) (g.O.Write.contents c.end_with_report.new.out) (prints g after)
    c.end_with_report.ensures.begun)
