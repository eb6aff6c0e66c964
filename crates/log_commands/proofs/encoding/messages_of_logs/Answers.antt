-- What was made of logs comes by their places: the lemmas on all of them are handed to the prover.
use Rattle.std.proofs.Common.{IfErr, IfOk, ◌≡◌, ◌⊎◌, ◌∙◌, Err, subst, sym}
use Rattle.captures.specs.HexLines.{hex_line}
use Rattle.message.specs.Capture.{message_bytes}
use Rattle.command_inputs.specs.FoundLogs.{AreLegalLogsUpTo}
use Rattle.command_inputs.specs.declared.fault.Fault.TheVariants as fault
use Rattle.log_commands.specs.Most.{most_of}
use Rattle.log_commands.specs.steps.Made.{AreMadeOfLogs, AreMessagesOf, form_text, lines_made}
use Rattle.log_commands.proofs.MadeLogs.{made_of_legal, made_of_none}
use Rattle.log_commands.proofs.encoding.messages_of_logs.Goals as goal

pub returns-then-lines_made-clause-logs : goal.returns-then-lines_made-clause-logs
returns-then-lines_made-clause-logs g c =
    let content = g.F.Files.content c.args.files.now in
    let asked = c.args.asked.now in
    let first = c.first_hart-first.result in
    let program = c.args.program.now in
    let paths = c.args.paths.now in
    let made = c.made_of_logs-made.result in
    let result = c.all_made.result in
    subst (λ first. IfOk result (λ made. AreMadeOfLogs
    (AreMessagesOf (form_text (lines_made asked.mixed asked.hex)) asked.period asked.mode first) (most_of asked.long) content program paths
    made.items)) c.first_hart-first.ensures
    (subst (λ hex. IfOk result (λ made. AreMadeOfLogs
    (AreMessagesOf (form_text hex) asked.period asked.mode first) (most_of asked.long) content program paths
    made.items)) (sym (sym c.lines_made.ensures ∙ c.if-lines_made.true))
    (subst (λ rows. IfOk result (λ made. AreMadeOfLogs
    (AreMessagesOf hex_line asked.period asked.mode first) rows content program paths made.items))
    c.most_of-rows.ensures
    (made_of_legal (AreMessagesOf hex_line asked.period asked.mode first) c.most_of-rows.result content program
    paths made.made made.end result c.made_of_logs-made.ensures.made c.all_made.ensures)))

pub returns-then-lines_made-clause-fault : goal.returns-then-lines_made-clause-fault
returns-then-lines_made-clause-fault g c =
    let content = g.F.Files.content c.args.files.now in
    let asked = c.args.asked.now in
    let first = c.first_hart-first.result in
    let made = c.made_of_logs-made.result in
    subst (λ rows. IfErr c.all_made.result (λ why. (why ≡ fault.Memory)
    ⊎ AreLegalLogsUpTo rows content c.args.program.now c.args.paths.now (Err why))) c.most_of-rows.ensures
    (made_of_none (AreMessagesOf hex_line asked.period asked.mode first) c.most_of-rows.result content
    c.args.program.now c.args.paths.now made.made made.end c.all_made.result c.made_of_logs-made.ensures.made
    c.all_made.ensures)

pub returns-else-lines_made-clause-logs : goal.returns-else-lines_made-clause-logs
returns-else-lines_made-clause-logs g c =
    let content = g.F.Files.content c.args.files.now in
    let asked = c.args.asked.now in
    let first = c.first_hart-first.result in
    let program = c.args.program.now in
    let paths = c.args.paths.now in
    let made = c.made_of_logs-made-else-lines_made.result in
    let result = c.all_made-else-lines_made.result in
    subst (λ first. IfOk result (λ made. AreMadeOfLogs
    (AreMessagesOf (form_text (lines_made asked.mixed asked.hex)) asked.period asked.mode first) (most_of asked.long) content program paths
    made.items)) c.first_hart-first.ensures
    (subst (λ hex. IfOk result (λ made. AreMadeOfLogs
    (AreMessagesOf (form_text hex) asked.period asked.mode first) (most_of asked.long) content program paths
    made.items)) (sym (sym c.lines_made.ensures ∙ c.if-lines_made.false))
    (subst (λ rows. IfOk result (λ made. AreMadeOfLogs
    (AreMessagesOf message_bytes asked.period asked.mode first) rows content program paths made.items))
    c.most_of-rows.ensures
    (made_of_legal (AreMessagesOf message_bytes asked.period asked.mode first) c.most_of-rows.result content program
    paths made.made made.end result c.made_of_logs-made-else-lines_made.ensures.made c.all_made-else-lines_made.ensures)))

pub returns-else-lines_made-clause-fault : goal.returns-else-lines_made-clause-fault
returns-else-lines_made-clause-fault g c =
    let content = g.F.Files.content c.args.files.now in
    let asked = c.args.asked.now in
    let first = c.first_hart-first.result in
    let made = c.made_of_logs-made-else-lines_made.result in
    subst (λ rows. IfErr c.all_made-else-lines_made.result (λ why. (why ≡ fault.Memory)
    ⊎ AreLegalLogsUpTo rows content c.args.program.now c.args.paths.now (Err why))) c.most_of-rows.ensures
    (made_of_none (AreMessagesOf message_bytes asked.period asked.mode first) c.most_of-rows.result content
    c.args.program.now c.args.paths.now made.made made.end c.all_made-else-lines_made.result c.made_of_logs-made-else-lines_made.ensures.made
    c.all_made-else-lines_made.ensures)
