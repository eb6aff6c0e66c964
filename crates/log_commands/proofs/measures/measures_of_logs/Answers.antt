-- What was made of logs comes by their places: the lemmas on all of them are handed to the prover.
use Rattle.std.proofs.Common.{IfErr, IfOk, ◌≡◌, ◌⊎◌, Err, subst}
use Rattle.command_inputs.specs.FoundLogs.{AreLegalLogsUpTo}
use Rattle.command_inputs.specs.declared.fault.Fault.TheVariants as fault
use Rattle.log_commands.specs.steps.Made.{AreMadeOfLogs, AreMeasuresOf}
use Rattle.log_commands.proofs.MadeLogs.{made_of_legal, made_of_none}
use Rattle.log_commands.proofs.measures.measures_of_logs.Goals as goal

pub returns-clause-logs : goal.returns-clause-logs
returns-clause-logs g c =
    let content = g.F.Files.content c.args.files.now in
    let asked = c.args.asked.now in
    let made = c.made_of_logs-made.result in
    subst (λ rows. IfOk c.all_made.result (λ made. AreMadeOfLogs (AreMeasuresOf asked.period asked.mode) rows content
    c.args.program.now c.args.paths.now made.items)) c.most_of-rows.ensures
    (made_of_legal (AreMeasuresOf asked.period asked.mode) c.most_of-rows.result content c.args.program.now
    c.args.paths.now made.made made.end c.all_made.result c.made_of_logs-made.ensures.made c.all_made.ensures)

pub returns-clause-fault : goal.returns-clause-fault
returns-clause-fault g c =
    let content = g.F.Files.content c.args.files.now in
    let asked = c.args.asked.now in
    let made = c.made_of_logs-made.result in
    subst (λ rows. IfErr c.all_made.result (λ why. (why ≡ fault.Memory)
    ⊎ AreLegalLogsUpTo rows content c.args.program.now c.args.paths.now (Err why))) c.most_of-rows.ensures
    (made_of_none (AreMeasuresOf asked.period asked.mode) c.most_of-rows.result content c.args.program.now
    c.args.paths.now made.made made.end c.all_made.result c.made_of_logs-made.ensures.made c.all_made.ensures)
