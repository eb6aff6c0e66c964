-- The program's grammar is too large to be searched in: what each call keeps of it is handed over.
use Rattle.cli.proofs.grammar.program.Goals as goal

pub with_subcommands-requires : goal.with_subcommands-requires
with_subcommands-requires c = c.bare.ensures

pub returns : goal.returns
returns c = c.with_subcommands.ensures
