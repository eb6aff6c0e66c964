-- A number is read from what was found, and said of the rows; how clap reads one is no equation that a search finds.
use Rattle.std.proofs.Common.{◌∙◌, codes, arith}
use Rattle.std.specs.Str.Parse.{ExplainsUnsignedError, HasUnsignedDigitsIfOk}
use Rattle.clap.proofs.WalkLemmas.{one_text-rows}
use Rattle.clap.specs.Words.{found_of}
use Rattle.cli.proofs.NumberLemmas.{read_as_spelt}
use Rattle.cli.proofs.asking.seed.Goals as goal

pub returns : goal.returns
returns c =
    let given = found_of c.args.given.now in
    λ text value numeral fits.
    let reads = c.get_one.ensures.value text (one_text-rows given (codes "seed") ∙ value) in
    c.unwrap_or.ensures
    ∙ read_as_spelt 64 (λ t r. ExplainsUnsignedError 10 t r) (λ t r. HasUnsignedDigitsIfOk t r)
    18446744073709551615 text c.get_one.result 1 (omega arith) reads numeral (omega (arith, fits))
