-- That a text may be left out is read from what was found, and said of the rows, which are one by a lemma of clap's.
use Rattle.std.proofs.Common.{◌∙◌}
use Rattle.clap.proofs.WalkLemmas.{first_value-rows}
use Rattle.clap.specs.Words.{found_of}
use Rattle.cli.proofs.asking.given_text.Goals as goal

pub returns : goal.returns
returns c = c.get_str.ensures ∙ first_value-rows (found_of c.args.given.now) c.args.id.now
