-- The arguments that are left lead to the subcommand's grammar.
use Rattle.std.proofs.Common.{drop}
use Rattle.cli.specs.steps.Subcommands.{app_of_subcommand, with_argument}
use Rattle.cli.proofs.GrammarLemmas.{LeadsTo}
use Rattle.cli.proofs.grammar.command_of.Given as goal

abbrev pub invariant-loop-argument : goal.invariant-loop-argument
invariant-loop-argument l =
    LeadsTo with_argument (app_of_subcommand l.subcommand) (drop l.argument-index l.subcommand.arguments.now) l.command
