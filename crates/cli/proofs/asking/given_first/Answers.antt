-- A number is read from what was found, and said of the rows; how clap reads one is no equation that a search finds.
use Rattle.std.proofs.Common.{◌≡◌, ◌∙◌, ap, arith, refl, sym, unwrap_or, ℕ, Option, Some, None}
use Rattle.std.specs.Str.Parse.{ExplainsUnsignedError, HasUnsignedDigitsIfOk}
use Rattle.clap.proofs.WalkLemmas.{one_text-rows}
use Rattle.clap.specs.Words.{found_of}
use Rattle.cli.specs.Asking.{decimal}
use Rattle.cli.proofs.NumberLemmas.{read_as_spelt}
use Rattle.cli.proofs.asking.given_first.Goals as goal

never : (first : ℕ) → Some first ≡ None → ⊥
never first is = cc

pub returns-in-Some : goal.returns-in-Some
returns-in-Some c =
    let given = found_of c.args.given.now in
    let is = c.min.ensures in (
      (λ none. absurd (never c.in-Some.first
          (sym c.in-Some.is ∙ c.get_one.ensures.none (one_text-rows given c.args.id.now ∙ none)))),
      omega (arith, is),
      (λ text value numeral small.
          let reads = c.get_one.ensures.value text (one_text-rows given c.args.id.now ∙ value) in
          let same : c.in-Some.first ≡ decimal text = ap (λ (read : Option ℕ). unwrap_or read 0) (sym c.in-Some.is)
          ∙ read_as_spelt 16 (λ t r. ExplainsUnsignedError 10 t r) (λ t r. HasUnsignedDigitsIfOk t r) 1023 text
          c.get_one.result 0 (omega arith) reads numeral small in
          let kept : c.min.result ≡ decimal text = omega (arith, is, same, small) in ap Some kept),
    )

pub returns-in-None : goal.returns-in-None
returns-in-None c =
    let given = found_of c.args.given.now in (
      (λ none. refl),
      tt,
      (λ text value numeral small.
          let reads = c.get_one.ensures.value text (one_text-rows given c.args.id.now ∙ value) in
          let same : 2000 ≡ decimal text = ap (λ (read : Option ℕ). unwrap_or read 2000) (sym c.in-None.is)
          ∙ read_as_spelt 16 (λ t r. ExplainsUnsignedError 10 t r) (λ t r. HasUnsignedDigitsIfOk t r) 1023 text
          c.get_one.result 2000 (omega arith) reads numeral small in
          let none : ⊥ = omega (arith, same, small) in absurd none),
    )
