-- The number that a text spells, and a count that is given by it.
use Rattle.std.proofs.Common.{ℕ, ◌≡◌, ◌∙◌, ◌<◌, ◌≤◌, ◌^◌, ap, arith, refl, sym, List, Option, Some, None, unwrap_or}
use Rattle.std.specs.Prelude.{Result}
use Rattle.std.specs.Str.Parse.{IsNumeral, ParsesUnsigned, without_leading_plus}
use Rattle.clap.specs.Matches.{ReadsOne}
use Rattle.clap.specs.Words.{Row, Text}
use Rattle.command_inputs.specs.Limits.{IsWithinLimits}
use Rattle.command_inputs.specs.declared.words.Asked.{Asked}
use Rattle.command_inputs.specs.declared.words.Asked.TheVariants.{Audit, Bench, Capture, Check, Decode, Dump, Encode}
use Rattle.command_inputs.specs.declared.words.Asked.TheVariants.{Compare, Generate, Listing, Measure, Replay, Salvage}
use Rattle.cli.specs.Asking.{Asks, IsGivenUpTo, decimal}

-- A text that spells a number of so many bits was read as that number, whatever else is known of the reading.
pub read_as_spelt : {E : Type 0} (bits : ℕ) (More Also : Text → Result ℕ E → Type 0) (most : ℕ) (text : Text)
    (read : Option ℕ) (default : ℕ)
    → most < 2 ^ bits → ReadsOne (λ t r. ParsesUnsigned bits 10 t r × More t r × Also t r) text read
    → IsNumeral 10 (without_leading_plus text) → decimal text ≤ most
    → unwrap_or read default ≡ decimal text
read_as_spelt bits More Also most text (Some n) default fits reads numeral small = reads.0.1
read_as_spelt bits More Also most text None default fits reads numeral small =
    absurd (reads.1.0 (numeral, omega (arith, small, fits)))

-- So there is one.
pub spelt_some : {E : Type 0} (bits : ℕ) (More Also : Text → Result ℕ E → Type 0) (most : ℕ) (text : Text)
    (read : Option ℕ)
    → most < 2 ^ bits → ReadsOne (λ t r. ParsesUnsigned bits 10 t r × More t r × Also t r) text read
    → IsNumeral 10 (without_leading_plus text) → decimal text ≤ most → read ≡ Some (decimal text)
spelt_some bits More Also most text (Some n) fits reads numeral small = ap Some reads.0.1
spelt_some bits More Also most text None fits reads numeral small =
    absurd (reads.1.0 (numeral, omega (arith, small, fits)))

never : (count : ℕ) → Some count ≡ None → ⊥
never count is = cc

-- A count of so many bits was read from an argument's value, if it has one.
module _ {E : Type 0} (bits : ℕ) (More Also : Text → Result ℕ E → Type 0) (most : ℕ) (value : Option Text)
    (read : Option ℕ) (fits : most < 2 ^ bits) (none : value ≡ None → read ≡ None)
    (reads : (text : Text) → value ≡ Some text
    → ReadsOne (λ t r. ParsesUnsigned bits 10 t r × More t r × Also t r) text read) where
  -- One was read, and kept within its range.
  pub given_some : (count kept : ℕ) → read ≡ Some count → 1 ≤ kept → kept ≤ most
      → (1 ≤ count → count ≤ most → kept ≡ count) → IsGivenUpTo most value (Some kept)
  given_some count kept is low high same = (
    (λ gone. absurd (never count (sym is ∙ none gone))),
    (low, high),
    (λ text given spelt.
        let spells : count ≡ decimal text = ap (λ (read : Option ℕ). unwrap_or read 0) (sym is)
        ∙ read_as_spelt bits More Also most text read 0 fits (reads text given) spelt.0 spelt.2 in
        let kept_so : kept ≡ count = same (omega (arith, spells, spelt.1)) (omega (arith, spells, spelt.2)) in
        ap Some (kept_so ∙ spells)),
  )

  -- None was read, so the value spells no such count.
  pub given_none : read ≡ None → IsGivenUpTo most value None
  given_none is = (
    (λ gone. refl),
    tt,
    (λ text given spelt.
        let spells : 0 ≡ decimal text = ap (λ (read : Option ℕ). unwrap_or read 0) (sym is)
        ∙ read_as_spelt bits More Also most text read 0 fits (reads text given) spelt.0 spelt.2 in
        let empty : ⊥ = omega (arith, spells, spelt.1) in absurd empty),
  )

-- The numbers of what is asked are within their limits.
pub within_limits : (name : Text) (rows : List Row) (asked : Asked) → Asks name rows asked → IsWithinLimits asked
within_limits name rows (Check asked) asks = tt
within_limits name rows (Encode asked) asks = (asks.2.0, asks.2.1, asks.7.1, asks.8.1)
within_limits name rows (Dump asked) asks = tt
within_limits name rows (Decode asked) asks = (asks.2.0, asks.2.1)
within_limits name rows (Replay asked) asks = (asks.2.0, asks.2.1, asks.4.0, asks.4.1)
within_limits name rows (Bench asked) asks = (asks.2.0, asks.2.1, asks.4.0, asks.4.1)
within_limits name rows (Audit asked) asks = asks.4.1
within_limits name rows (Measure asked) asks = (asks.2.0, asks.2.1)
within_limits name rows (Listing asked) asks = asks.2.1
within_limits name rows (Salvage asked) asks = asks.2.1
within_limits name rows (Capture asked) asks = (asks.3.0, asks.3.1, asks.4.1, asks.5.1)
within_limits name rows (Compare asked) asks = (asks.2.0, asks.2.1)
within_limits name rows (Generate asked) asks = (asks.5.1, asks.6.1, asks.7.1, asks.8.1, asks.9.1, asks.12.1)
