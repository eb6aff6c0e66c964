-- A number is read from what was found, and said of the rows; how clap reads one is no equation that a search finds.
use Rattle.std.proofs.Common.{◌∙◌, arith}
use Rattle.std.specs.Str.Parse.{ExplainsUnsignedError, HasUnsignedDigitsIfOk}
use Rattle.clap.proofs.WalkLemmas.{one_text-rows}
use Rattle.clap.specs.Words.{found_of}
use Rattle.cli.proofs.NumberLemmas.{spelt_some}
use Rattle.cli.proofs.asking.given_seed.Goals as goal

pub returns : goal.returns
returns c =
    let row = one_text-rows (found_of c.args.given.now) c.args.id.now in (
      (λ none. c.get_one.ensures.none (row ∙ none)),
      (λ text value numeral fits.
          spelt_some 64 (λ t r. ExplainsUnsignedError 10 t r) (λ t r. HasUnsignedDigitsIfOk t r) 18446744073709551615
          text c.get_one.result (omega arith) (c.get_one.ensures.value text (row ∙ value)) numeral
          (omega (arith, fits))),
    )
