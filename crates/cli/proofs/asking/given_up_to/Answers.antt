-- A number is read from what was found, and said of the rows; how clap reads one is no equation that a search finds.
use Rattle.std.proofs.Common.{◌∙◌, arith}
use Rattle.std.specs.Str.Parse.{ExplainsUnsignedError, HasUnsignedDigitsIfOk}
use Rattle.clap.proofs.WalkLemmas.{one_text-rows}
use Rattle.clap.specs.Words.{found_of}
use Rattle.cli.proofs.NumberLemmas.{given_none, given_some}
use Rattle.cli.proofs.asking.given_up_to.Goals as goal

pub returns-in-Some : goal.returns-in-Some
returns-in-Some c =
    let row = one_text-rows (found_of c.args.given.now) c.args.id.now in
    let is = c.clamp.ensures in
    given_some 16 (λ t r. ExplainsUnsignedError 10 t r) (λ t r. HasUnsignedDigitsIfOk t r) c.args.most _
    c.get_one.result (omega arith) (λ none. c.get_one.ensures.none (row ∙ none))
    (λ text value. c.get_one.ensures.value text (row ∙ value)) c.in-Some.count c.clamp.result c.in-Some.is
    (omega (arith, is)) (omega (arith, is)) (λ low high. omega (arith, is, low, high))

pub returns-in-None : goal.returns-in-None
returns-in-None c =
    let row = one_text-rows (found_of c.args.given.now) c.args.id.now in
    given_none 16 (λ t r. ExplainsUnsignedError 10 t r) (λ t r. HasUnsignedDigitsIfOk t r) c.args.most _
    c.get_one.result (omega arith) (λ none. c.get_one.ensures.none (row ∙ none))
    (λ text value. c.get_one.ensures.value text (row ∙ value)) c.in-None.is
