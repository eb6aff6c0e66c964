-- The prover tries no chain of steps by itself: what each step found is handed to it, in order.
use Rattle.std.proofs.Common.{◌≡◌, ◌⊎◌, length, refl, subst, arith, Ok, Err}
use Rattle.std.proofs.lemmas.Grind.{common_steps}
use Rattle.message.specs.Version.{most_harts}
use Rattle.message.specs.declared.header.Version.TheVariants.{Two}
use Rattle.command_inputs.specs.Found.{IsAskedProgram}
use Rattle.command_inputs.specs.FurtherPieces.{base_number}
use Rattle.command_inputs.specs.Order.{logs_fault}
use Rattle.command_inputs.specs.Symbols.{AreSymbols}
use Rattle.command_inputs.specs.declared.fault.Fault.TheVariants as fault
use Rattle.command_inputs.proofs.FirstSteps.{early_ends, lacks, passes}
use Rattle.log_commands.specs.Checking.{IsCheckInput}
use Rattle.log_commands.specs.declared.reason.LogReason.{LogReason}
use Rattle.log_commands.proofs.checking.read_input.Goals as goal

pub returns-in_err-program-clause-early : goal.returns-in_err-program-clause-early
returns-in_err-program-clause-early g c =
    let asked = c.args.asked.now in
    let why = c.in_err-program.field-0.0 in
    let is : c.from_residual.result ≡ Err why = grind (arith, common_steps) in
    early_ends (logs_fault (most_harts Two) (base_number asked.program) (length asked.logs.items))
    c.asked_program.result why c.from_residual.result c.in_err-program.was is c.asked_program.ensures.early

pub returns-in_err-program-clause-lacked : goal.returns-in_err-program-clause-lacked
returns-in_err-program-clause-lacked g c =
    let asked = c.args.asked.now in
    let content = g.F.Files.content c.args.files.now in
    let why = c.in_err-program.field-0.0 in
    let is : c.from_residual.result ≡ Err why = grind (arith, common_steps) in
    lacks why c.from_residual.result (IsAskedProgram content (most_harts Two) asked.program asked.logs.items (Err why))
    (λ why. IsCheckInput content asked (Err why)) is c.in_err-program.ensures.fault (λ none. (Err why, none, refl))

pub returns-in_err-symbols-clause-early : goal.returns-in_err-symbols-clause-early
returns-in_err-symbols-clause-early g c =
    let asked = c.args.asked.now in
    passes (logs_fault (most_harts Two) (base_number asked.program) (length asked.logs.items))
    c.asked_program.result c.in_ok-program.program c.from_residual-in_err-symbols.result c.in_ok-program.was
    c.asked_program.ensures.early

pub returns-in_err-symbols-clause-lacked : goal.returns-in_err-symbols-clause-lacked
returns-in_err-symbols-clause-lacked g c =
    let asked = c.args.asked.now in
    let content = g.F.Files.content c.args.files.now in
    let why = c.in_err-symbols.field-0.0 in
    let is : c.from_residual-in_err-symbols.result ≡ Err why = grind (arith, common_steps) in
    let lacked = subst (λ known. (why ≡ fault.Memory) ⊎ AreSymbols known asked.symbols (Err why))
    c.in_ok-program.ensures.kept c.in_err-symbols.ensures.fault in
    lacks why c.from_residual-in_err-symbols.result (AreSymbols content asked.symbols (Err why))
    (λ why. IsCheckInput content asked (Err why)) is lacked
    (λ none. (Ok c.in_ok-program.program, c.in_ok-program.ensures.program, (Err why, none, refl)))

pub returns-clause-early : goal.returns-clause-early
returns-clause-early g c =
    let asked = c.args.asked.now in
    passes (logs_fault (most_harts Two) (base_number asked.program) (length asked.logs.items))
    c.asked_program.result c.in_ok-program.program _ c.in_ok-program.was c.asked_program.ensures.early

pub returns-clause-found : goal.returns-clause-found
returns-clause-found g c =
    let asked = c.args.asked.now in
    let named = subst (λ known. AreSymbols {W = LogReason} known asked.symbols (Ok c.in_ok-symbols.symbols))
    c.in_ok-program.ensures.kept c.in_ok-symbols.ensures.symbols in (
      Ok c.in_ok-program.program,
      c.in_ok-program.ensures.program,
      (Ok c.in_ok-symbols.symbols, named, refl),
    )
