-- The prover tries no record of its own: what was read, and the program that it makes, are handed to it.
use Rattle.std.proofs.Common.{◌≡◌, ◌⊎◌, inr, subst, sym, Err, IfErr, arith}
use Rattle.std.proofs.lemmas.Grind.{common_steps}
use Rattle.command_inputs.specs.Found.{IsImageAt}
use Rattle.command_inputs.specs.declared.fault.Fault.TheVariants as fault
use Rattle.command_inputs.proofs.FromFiles.{image_made, image_refused, image_unread}
use Rattle.command_inputs.proofs.inputs.image_of.Goals as goal

pub returns-in_err-bytes-clause-fault : goal.returns-in_err-bytes-clause-fault
returns-in_err-bytes-clause-fault g c =
    let content = g.F.Files.content c.args.files.now in
    let is : c.from_residual.result ≡ Err c.in_err-bytes.field-0.0 = grind (arith, common_steps) in
    subst (λ r. IfErr r (λ why. (why ≡ fault.Memory) ⊎ IsImageAt content c.args.base c.args.image (Err why))) (sym is)
    (image_unread content c.args.base c.args.image c.in_err-bytes.field-0.0 c.in_err-bytes.ensures.lacked)

pub returns-in_err-new-clause-fault : goal.returns-in_err-new-clause-fault
returns-in_err-new-clause-fault g c =
    let content = g.F.Files.content c.args.files.now in
    let why = c.in_err-new.field-0.0 in
    let is : c.from_residual-in_err-new.result ≡ Err (fault.Image why) = grind (arith, common_steps) in
    subst (λ r. IfErr r (λ why. (why ≡ fault.Memory) ⊎ IsImageAt content c.args.base c.args.image (Err why))) (sym is)
    (inr (image_refused content c.args.base c.args.image c.in_ok-bytes.bytes.items c.in_ok-bytes.ensures.held why
    c.in_err-new.ensures.exact))

pub returns-clause-program : goal.returns-clause-program
returns-clause-program g c =
    image_made (g.F.Files.content c.args.files.now) c.args.base c.args.image c.in_ok-bytes.bytes.items
    c.in_ok-bytes.ensures.held c.in_ok-new.field-0 c.in_ok-new.ensures.exact
