-- The prover tries no chain of steps by itself: what each step found is handed to it, in order.
use Rattle.std.proofs.Common.{◌≡◌, ◌⊎◌, Err}
use Rattle.std.proofs.lemmas.Result.{IfErr-weaker}
use Rattle.command_inputs.specs.Found.{IsAskedProgram, IsProgramAt}
use Rattle.command_inputs.specs.declared.fault.Fault.TheVariants as fault
use Rattle.command_inputs.proofs.FirstSteps.{program_lacked}
use Rattle.command_inputs.proofs.inputs.asked_program.Goals as goal

pub returns-clause-fault : goal.returns-clause-fault
returns-clause-fault g c =
    let content = g.F.Files.content c.args.files.now in
    let base = c.in_ok-base.base in
    let asked = c.args.asked.now in
    let logs = c.args.logs.now.items in
    IfErr-weaker c.program_of.result (λ why. (why ≡ fault.Memory) ⊎ IsProgramAt content base asked (Err why))
    (λ why. (why ≡ fault.Memory) ⊎ IsAskedProgram content c.args.most asked logs (Err why))
    (program_lacked content c.args.most asked logs base c.in_ok-check_count.field-0 c.in_ok-base.ensures.found
    c.in_ok-check_count.ensures.found) c.program_of.ensures.fault
