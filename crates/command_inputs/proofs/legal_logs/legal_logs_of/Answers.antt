-- The prover does not go from places to lists: the lemmas on what was made of the logs are handed to it.
use Rattle.std.proofs.Common.{◌≡◌, ◌⊎◌, Ok, Err, arith, subst, sym}
use Rattle.std.proofs.lemmas.Grind.{common_steps}
use Rattle.retire.specs.Log.{most_rows}
use Rattle.log_streams.specs.Made.{AreMade}
use Rattle.command_inputs.specs.FoundLogs.{IsFirstRefused}
use Rattle.command_inputs.specs.declared.fault.Fault.TheVariants as fault
use Rattle.command_inputs.proofs.StreamLemmas.{IsKept, first_refused, logs_kept}
use Rattle.command_inputs.proofs.legal_logs.legal_logs_of.Goals as goal

pub returns-in-Ok-clause-logs : goal.returns-in-Ok-clause-logs
returns-in-Ok-clause-logs g c =
    let content = g.F.Files.content c.args.files.now in
    let program = c.args.program.now in
    let paths = c.args.paths.now in
    let made = c.made_of_logs-made.result.made.items in
    let is : c.made_of_logs-made.result.end ≡ Ok c.in-Ok.field-0 = grind (arith, common_steps) in
    logs_kept most_rows content program _ c.in-Ok.field-0 paths made
    (subst (AreMade (IsKept program) (λ events row log. ⊥) content program most_rows paths made) is
    c.made_of_logs-made.ensures.made)

pub returns-clause-fault : goal.returns-clause-fault
returns-clause-fault g c =
    let content = g.F.Files.content c.args.files.now in
    let program = c.args.program.now in
    let paths = c.args.paths.now in
    let made = c.made_of_logs-made.result.made.items in
    let end = c.in-Err.field-0 in
    let is : c.made_of_logs-made.result.end ≡ Err end = grind (arith, common_steps) in
    subst (λ why. (why ≡ fault.Memory) ⊎ IsFirstRefused content program paths why) (sym c.of_stop.ensures)
    (first_refused most_rows (IsKept program) (λ events row log. ⊥) (λ events row log none. none) content program paths made end
    (subst (AreMade (IsKept program) (λ events row log. ⊥) content program most_rows paths made) is
    c.made_of_logs-made.ensures.made))
