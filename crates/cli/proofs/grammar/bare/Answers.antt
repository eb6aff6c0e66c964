-- The program's grammar is too large to be searched in: what each call keeps of it is handed over.
use Rattle.std.proofs.Common.{codes}
use Rattle.clap.specs.Words.{new_app}
use Rattle.cli.specs.Grammar.{HasGrammar}
use Rattle.cli.proofs.GrammarLemmas.{with_about, with_end, with_required, with_version}
use Rattle.cli.proofs.grammar.bare.Goals as goal

pub returns : goal.returns
returns c =
    let named : HasGrammar (new_app (codes "tracebench")) c.new.result = (c.new.ensures.app, c.new.ensures.local) in
    with_required _ _ _ c.subcommand_required.ensures (with_end _ _ _ _ c.after_help.ensures
    (with_version _ _ _ _ c.version.ensures (with_about _ _ _ _ c.about.ensures named)))
