-- A command's grammar is too large to be searched in: what each call keeps of it is handed over.
use Rattle.std.proofs.Common.{refl, arith}
use Rattle.clap.specs.Words.{new_app}
use Rattle.cli.specs.Grammar.{HasGrammar}
use Rattle.cli.specs.steps.Subcommands.{app_of_subcommand, with_argument}
use Rattle.cli.proofs.GrammarLemmas.{adds_rule, leads_on, led, with_about, with_end}
use Rattle.cli.proofs.grammar.command_of.Goals as goal

pub loop-argument-init : goal.loop-argument-init
loop-argument-init c =
    let named : HasGrammar (new_app c.args.subcommand.now.name.now) c.new.result = (c.new.ensures.app, c.new.ensures.local) in (
      new_app c.args.subcommand.now.name.now,
      with_end _ _ _ _ c.after_help-command.ensures (with_about _ _ _ _ c.about.ensures named),
      refl,
    )

pub loop-argument-preserved : goal.loop-argument-preserved
loop-argument-preserved c =
    let at = c.loop-argument in
    leads_on with_argument (app_of_subcommand c.args.subcommand.now) c.args.subcommand.now.arguments.now
    at.argument-index _ at.command _ c.loop-argument-test.true at.invariant
    (λ app has. adds_rule _ _ _ app _ has c.arg_of.ensures c.in_ok-command.ensures)

pub returns : goal.returns
returns c =
    let at = c.loop-argument in
    let over = c.loop-argument-test.false in
    led with_argument (app_of_subcommand c.args.subcommand.now) c.args.subcommand.now.arguments.now at.argument-index
    at.command (omega (arith, over)) at.invariant
