-- The program's grammar is too large to be searched in: what each call keeps of it is handed over.
use Rattle.std.proofs.Common.{refl, arith}
use Rattle.std.specs.List.{fold}
use Rattle.cli.specs.Grammar.{bare_program}
use Rattle.cli.specs.steps.Subcommands.{with_row}
use Rattle.cli.proofs.GrammarLemmas.{adds_subcommand, leads_on, led}
use Rattle.cli.proofs.grammar.with_subcommands.Goals as goal

pub loop-subcommand-init : goal.loop-subcommand-init
loop-subcommand-init c = (bare_program, c.requires, refl)

pub loop-subcommand-preserved : goal.loop-subcommand-preserved
loop-subcommand-preserved c =
    let at = c.loop-subcommand in
    leads_on with_row (fold with_row bare_program c.args.table.now) c.args.table.now at.subcommand-index _ at.program _
    c.loop-subcommand-test.true at.invariant
    (λ app has. adds_subcommand _ _ _ app _ has c.in_ok-command.ensures c.in_ok-program.ensures)

pub returns : goal.returns
returns c =
    let at = c.loop-subcommand in
    let over = c.loop-subcommand-test.false in
    led with_row (fold with_row bare_program c.args.table.now) c.args.table.now at.subcommand-index at.program
    (omega (arith, over)) at.invariant
