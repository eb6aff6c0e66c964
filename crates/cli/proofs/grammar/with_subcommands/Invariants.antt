-- The subcommands that are left lead to the program's grammar.
use Rattle.std.proofs.Common.{drop}
use Rattle.std.specs.List.{fold}
use Rattle.cli.specs.Grammar.{bare_program}
use Rattle.cli.specs.steps.Subcommands.{with_row}
use Rattle.cli.proofs.GrammarLemmas.{LeadsTo}
use Rattle.cli.proofs.grammar.with_subcommands.Given as goal

abbrev pub invariant-loop-subcommand : goal.invariant-loop-subcommand
invariant-loop-subcommand l =
    LeadsTo with_row (fold with_row bare_program l.table) (drop l.subcommand-index l.table) l.program
