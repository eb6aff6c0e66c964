-- The prover tries no chain of steps by itself: what each step found is handed to it, in order.
use Rattle.std.proofs.Common.{◌≡◌, ◌∙◌, subst, arith, length, Ok, Err}
use Rattle.std.proofs.lemmas.Grind.{common_steps}
use Rattle.command_inputs.specs.FurtherPieces.{base_number}
use Rattle.command_inputs.specs.Begun.{IsCutOf}
use Rattle.command_inputs.specs.FoundLogs.{AreAskedLogs}
use Rattle.command_inputs.specs.Order.{logs_fault}
use Rattle.command_inputs.specs.Printed.{First, PrintsUnlessDenied}
use Rattle.command_inputs.proofs.Beginnings.{cut_leads}
use Rattle.command_inputs.proofs.FirstSteps.{early_ends, logs_end, logs_there, no_logs, passes}
use Rattle.command_inputs.proofs.Runs.{leads_on}
use Rattle.retire.specs.Log.{most_rows}
use Rattle.log_commands.specs.Faults.{Once}
use Rattle.log_commands.specs.declared.reason.LogReason.{LogReason}
use Rattle.log_commands.proofs.legal_logs.over_legal_logs.Goals.{After-go_on-ended}
use Rattle.log_commands.proofs.legal_logs.over_legal_logs.Goals as goal

pub returns-in_err-program-clause-early : goal.returns-in_err-program-clause-early
returns-in_err-program-clause-early g c =
    let asked = c.args.asked.now in
    let why = c.in_err-program.field-0.0 in
    let is : c.from_residual.result ≡ Err why = grind (arith, common_steps) in
    early_ends (logs_fault asked.most (base_number asked.program.now) (length asked.paths.now.items))
    c.asked_program.result why c.from_residual.result c.in_err-program.was is c.asked_program.ensures.early

pub returns-in_err-program-clause-printed : goal.returns-in_err-program-clause-printed
returns-in_err-program-clause-printed g c =
    let content = g.F.Files.content c.args.files.now in
    let asked = c.args.asked.now in
    let why = c.in_err-program.field-0.0 in
    let is : c.from_residual.result ≡ Err why = grind (arith, common_steps) in
    no_logs most_rows content asked.most asked.program.now asked.paths.now.items
    (Once (AreAskedLogs content asked.most asked.program.now asked.paths.now.items)
    (g.T.OnLogs.CanWrite c.args.task.now content))
    (g.O.Write.contents c.args.out.now) why c.from_residual.result is
    (g.T.OnLogs.Prints c.args.task.now content) c.in_err-program.ensures.fault

pub returns-in_err-logs-clause-early : goal.returns-in_err-logs-clause-early
returns-in_err-logs-clause-early g c =
    let asked = c.args.asked.now in
    passes (logs_fault asked.most (base_number asked.program.now) (length asked.paths.now.items))
    c.asked_program.result c.in_ok-program.program c.from_residual-in_err-logs.result c.in_ok-program.was
    c.asked_program.ensures.early

pub returns-in_err-logs-clause-printed : goal.returns-in_err-logs-clause-printed
returns-in_err-logs-clause-printed g c =
    let content = g.F.Files.content c.args.files.now in
    let asked = c.args.asked.now in
    let why = c.in_err-logs.field-0.0 in
    let is : c.from_residual-in_err-logs.result ≡ Err why = grind (arith, common_steps) in
    logs_end most_rows content asked.most asked.program.now asked.paths.now.items c.as_slice-paths.result.now
    c.as_slice-paths.ensures.value
    (Once (AreAskedLogs content asked.most asked.program.now asked.paths.now.items)
    (g.T.OnLogs.CanWrite c.args.task.now content))
    (g.O.Write.contents c.args.out.now) why c.from_residual-in_err-logs.result is
    (g.T.OnLogs.Prints c.args.task.now content) c.in_ok-program.program
    (g.F.Files.content c.asked_program.new.files) c.in_ok-program.ensures.program c.in_ok-program.ensures.kept
    c.in_err-logs.ensures.fault

pub returns-clause-early : goal.returns-clause-early
returns-clause-early g c =
    let asked = c.args.asked.now in
    passes (logs_fault asked.most (base_number asked.program.now) (length asked.paths.now.items))
    c.asked_program.result c.in_ok-program.program c.go_on-ended.result c.in_ok-program.was
    c.asked_program.ensures.early

module _ (g : _) (c : After-go_on-ended g) where
  -- The logs that were found.
  there : AreAskedLogs {W = LogReason} (g.F.Files.content c.args.files.now) c.args.asked.now.most
      c.args.asked.now.program.now c.args.asked.now.paths.now.items (Ok c.in_ok-logs.logs.items)
  there =
      let asked = c.args.asked.now in
      logs_there most_rows (g.F.Files.content c.args.files.now) asked.most asked.program.now asked.paths.now.items
      c.as_slice-paths.result.now c.as_slice-paths.ensures.value c.in_ok-program.program
      (g.F.Files.content c.asked_program.new.files) (Ok c.in_ok-logs.logs.items) c.in_ok-program.ensures.program
      c.in_ok-program.ensures.kept c.in_ok-logs.ensures.logs

pub returns-clause-printed : goal.returns-clause-printed
returns-clause-printed g c =
    let content = g.F.Files.content c.args.files.now in
    let prints = g.T.OnLogs.Prints c.args.task.now in
    let can = g.T.OnLogs.CanWrite c.args.task.now in
    let asked = c.args.asked.now in
    let finds = AreAskedLogs {W = LogReason} content asked.most asked.program.now asked.paths.now.items in
    let logs = c.in_ok-logs.logs.items in
    let slice = c.as_slice.result.now in
    let ended = c.go_on-ended.result in
    let old = g.O.Write.contents c.args.out.now in
    let new = g.O.Write.contents c.go_on-ended.new.out in
    let there = there g (goal.at.returns-clause-printed g c).After-go_on-ended in
    leads_on (prints content logs) (First finds (prints content)) (can content logs) (Once finds (can content)) ended
    old new (λ printed is. (Ok logs, there, is)) (λ is. (logs, there, is))
    (subst (λ logs. PrintsUnlessDenied (prints content logs) (can content logs) ended old new) c.as_slice.ensures.value
    (subst (λ known. PrintsUnlessDenied (prints known slice) (can known slice) ended old new)
    (c.in_ok-logs.ensures.kept ∙ c.in_ok-program.ensures.kept) c.go_on-ended.ensures.printed))

pub returns-clause-cut : goal.returns-clause-cut
returns-clause-cut g c =
    let content = g.F.Files.content c.args.files.now in
    let prints = g.T.OnLogs.Prints c.args.task.now in
    let asked = c.args.asked.now in
    let finds = AreAskedLogs {W = LogReason} content asked.most asked.program.now asked.paths.now.items in
    let logs = c.in_ok-logs.logs.items in
    let slice = c.as_slice.result.now in
    let old = g.O.Write.contents c.args.out.now in
    let new = g.O.Write.contents c.go_on-ended.new.out in
    let there = there g (goal.at.returns-clause-cut g c).After-go_on-ended in
    cut_leads (prints content logs) (First finds (prints content)) old new (λ printed is. (Ok logs, there, is))
    (subst (λ logs. IsCutOf (prints content logs) old new) c.as_slice.ensures.value
    (subst (λ known. IsCutOf (prints known slice) old new) (c.in_ok-logs.ensures.kept ∙ c.in_ok-program.ensures.kept)
    c.go_on-ended.ensures.cut))
