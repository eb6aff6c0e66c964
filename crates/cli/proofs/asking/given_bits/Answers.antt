-- A number is read from what was found, and said of the rows; how clap reads one is no equation that a search finds.
use Rattle.std.proofs.Common.{◌≡◌, ◌∙◌, ap, codes, arith, refl, sym, unwrap_or, ℕ, Option, Some, None}
use Rattle.std.specs.Str.Parse.{ExplainsUnsignedError, HasUnsignedDigitsIfOk}
use Rattle.clap.proofs.WalkLemmas.{one_text-rows}
use Rattle.clap.specs.Words.{found_of}
use Rattle.cli.specs.Asking.{decimal}
use Rattle.cli.proofs.NumberLemmas.{read_as_spelt}
use Rattle.cli.proofs.asking.given_bits.Goals as goal

never : (bits : ℕ) → Some bits ≡ None → ⊥
never bits is = cc

pub returns-in-Some : goal.returns-in-Some
returns-in-Some c =
    let given = found_of c.args.given.now in
    let is = c.clamp.ensures in (
      (λ none. absurd (never c.in-Some.bits
          (sym c.in-Some.is ∙ c.get_one.ensures.none (one_text-rows given (codes "number-bits") ∙ none)))),
      (omega (arith, is), omega (arith, is)),
      (λ text value numeral least most.
          let reads = c.get_one.ensures.value text (one_text-rows given (codes "number-bits") ∙ value) in
          let same : c.in-Some.bits ≡ decimal text = ap (λ (read : Option ℕ). unwrap_or read 0) (sym c.in-Some.is)
          ∙ read_as_spelt 16 (λ t r. ExplainsUnsignedError 10 t r) (λ t r. HasUnsignedDigitsIfOk t r) 32 text
          c.get_one.result 0 (omega arith) reads numeral most in
          let kept : c.clamp.result ≡ decimal text = omega (arith, is, same, least, most) in ap Some kept),
    )

pub returns-in-None : goal.returns-in-None
returns-in-None c =
    let given = found_of c.args.given.now in (
      (λ none. refl),
      tt,
      (λ text value numeral least most.
          let reads = c.get_one.ensures.value text (one_text-rows given (codes "number-bits") ∙ value) in
          let same : 0 ≡ decimal text = ap (λ (read : Option ℕ). unwrap_or read 0) (sym c.in-None.is)
          ∙ read_as_spelt 16 (λ t r. ExplainsUnsignedError 10 t r) (λ t r. HasUnsignedDigitsIfOk t r) 32 text
          c.get_one.result 0 (omega arith) reads numeral most in
          let none : ⊥ = omega (arith, same, least) in absurd none),
    )
