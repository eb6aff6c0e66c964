-- A number is read from what was found, and said of the rows; how clap reads one is no equation that a search finds.
use Rattle.std.proofs.Common.{◌∙◌, codes, arith}
use Rattle.std.specs.Str.Parse.{ExplainsUnsignedError, HasUnsignedDigitsIfOk}
use Rattle.clap.proofs.WalkLemmas.{one_text-rows}
use Rattle.clap.specs.Words.{found_of}
use Rattle.cli.proofs.NumberLemmas.{read_as_spelt}
use Rattle.cli.proofs.asking.harts.Goals as goal

pub returns : goal.returns
returns c =
    let given = found_of c.args.given.now in
    let is = c.clamp.ensures in (
      omega (arith, is),
      omega (arith, is),
      (λ text value spelt.
          let reads = c.get_one.ensures.value text (one_text-rows given (codes "harts") ∙ value) in
          let same = c.unwrap_or.ensures
          ∙ read_as_spelt 16 (λ t r. ExplainsUnsignedError 10 t r) (λ t r. HasUnsignedDigitsIfOk t r) 1024 text
          c.get_one.result 1
          (omega arith) reads spelt.0 spelt.2 in
          omega (arith, is, same, spelt.1, spelt.2)),
    )
