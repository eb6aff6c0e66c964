-- A flag is read from what was found, and said of the rows, which are one by a lemma of clap's.
use Rattle.std.proofs.Common.{◌∙◌}
use Rattle.clap.proofs.WalkLemmas.{one_text-rows}
use Rattle.clap.specs.Words.{found_of}
use Rattle.cli.proofs.asking.flag.Goals as goal

pub returns : goal.returns
returns c =
    let rows = one_text-rows (found_of c.args.given.now) c.args.id.now in (
      (λ is. c.get_flag.ensures.value (rows ∙ is)),
      (λ is. c.get_flag.ensures.other (rows ∙ is)),
      (λ is. c.get_flag.ensures.none (rows ∙ is)),
    )
