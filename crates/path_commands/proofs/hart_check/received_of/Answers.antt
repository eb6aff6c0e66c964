-- The prover tries no chain of steps by itself: what each step found is handed to it, in order.
use Rattle.std.proofs.Common.{◌≡◌, ◌∙◌, ◌⊎◌, Err, IfErr, Ok, arith, inr, refl, subst, sym}
use Rattle.std.proofs.lemmas.Grind.{common_steps}
use Rattle.command_inputs.specs.Found.{IsRead}
use Rattle.command_inputs.specs.declared.fault.Fault.TheVariants as fault
use Rattle.path_commands.specs.Audited.{IsReceivedOf}
use Rattle.path_commands.proofs.AuditSteps.{unread}
use Rattle.path_commands.proofs.hart_check.received_of.Goals as goal

pub returns-in_err-check_hart-clause-lacked : goal.returns-in_err-check_hart-clause-lacked
returns-in_err-check_hart-clause-lacked g c =
    let content = g.F.Files.content c.args.files.now in
    let asked = c.args.asked.now in
    let why = c.in_err-check_hart.field-0.0 in
    let is : c.from_residual.result ≡ Err why = grind (arith, common_steps) in
    subst (λ result. IfErr result (λ why. (why ≡ fault.Memory)
    ⊎ IsReceivedOf content asked c.args.harts c.args.count (Err why))) (sym is)
    (inr (Err why, sym c.in_err-check_hart.was ∙ c.check_hart.ensures, refl))

pub returns-in_err-bytes-clause-lacked : goal.returns-in_err-bytes-clause-lacked
returns-in_err-bytes-clause-lacked g c =
    let content = g.F.Files.content c.args.files.now in
    let asked = c.args.asked.now in
    let why = c.in_err-bytes.field-0.0 in
    let is : c.from_residual-in_err-bytes.result ≡ Err why = grind (arith, common_steps) in
    subst (λ result. IfErr result (λ why. (why ≡ fault.Memory)
    ⊎ IsReceivedOf content asked c.args.harts c.args.count (Err why))) (sym is)
    (unread why (IsRead content asked.received (Err why))
    (IsReceivedOf content asked c.args.harts c.args.count (Err why))
    (λ none. (Ok tt, sym c.in_ok-check_hart.was ∙ c.check_hart.ensures, none)) c.in_err-bytes.ensures.lacked)

pub returns-clause-found : goal.returns-clause-found
returns-clause-found g c =
    (Ok tt, sym c.in_ok-check_hart.was ∙ c.check_hart.ensures, c.in_ok-bytes.ensures.held)
