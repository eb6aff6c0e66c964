-- The value is read from what was found, and said of the rows, which are one by a lemma of clap's.
use Rattle.std.proofs.Common.{◌∙◌, ap, unwrap_or, [], Option, List, ℕ}
use Rattle.clap.proofs.WalkLemmas.{first_value-rows}
use Rattle.clap.specs.Words.{found_of}
use Rattle.cli.proofs.asking.text.Goals as goal

abbrev none_or : Option (List ℕ) → List ℕ
none_or o = unwrap_or o []

pub returns : goal.returns
returns c = c.text_found.ensures ∙ ap none_or (first_value-rows (found_of c.args.given.now) c.args.id.now)
