-- What each step found is handed on, in order.
use Rattle.std.proofs.Common.{◌≡◌, ◌∙◌, Err, arith}
use Rattle.std.proofs.lemmas.Grind.{common_steps}
use Rattle.command_inputs.specs.declared.fault.Fault.TheVariants as fault
use Rattle.log_commands.proofs.Generated.{refused, undrawn}
use Rattle.log_commands.proofs.generating.generate.Goals as goal

pub returns-in_err-mix-clause-printed : goal.returns-in_err-mix-clause-printed
returns-in_err-mix-clause-printed g c =
    let why = c.in_err-mix.field-0.0 in
    let is : c.from_residual.result ≡ Err why = grind (arith, common_steps) in
    refused c.args.asked.now why c.from_residual.result (g.O.Write.contents c.args.out.now) c.in_err-mix.ensures is

pub returns-in_err-program-clause-printed : goal.returns-in_err-program-clause-printed
returns-in_err-program-clause-printed g c =
    let why = c.in_err-program.field-0.0 in
    let is : c.from_residual-in_err-program.result ≡ Err (fault.Image why) = grind (arith, common_steps) in
    undrawn c.args.asked.now c.in_ok-mix.mix c.in_ok-mix.base why c.as_slice.result.now
    c.from_residual-in_err-program.result (g.O.Write.contents c.args.out.now) c.in_ok-mix.ensures
    (c.as_slice.ensures.value ∙ c.in_ok-image.ensures) c.in_err-program.ensures.exact is
