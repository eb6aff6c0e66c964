-- The counts of a hart add up, and a hart is whole where its lists are equal.
use Rattle.std.proofs.Common.{◌≡◌, ◌↔◌, ℕ, ◌+◌, ◌-◌, Bool, true, false, List, [], ◌∷◌, cond, length, refl, ap, arith}
use Rattle.std.specs.Prelude.{◌==◌, not}
use Rattle.std.specs.List.{count_by}
use Rattle.std.proofs.lemmas.Bool.{and_from, and_parts, eq-eqb, eqb-true}
use Rattle.std.proofs.lemmas.List.Sums.{sum_by-append}
use Rattle.message.specs.declared.message.Message.{Message}
use Rattle.auditing.proofs.Whole.{whole_is}
use Rattle.auditing.specs.Matches.{AreAllMatched, Flags, matched_of}
use Rattle.payload.specs.declared.by.By.{By}
use Rattle.auditing.specs.Aligned.{IsAligned, known_payloads}
use Rattle.auditing.specs.Counted.{is_whole}

-- One flag more that is not set.
one_unset : (flags : List Bool) → count_by not (false ∷ flags) ≡ 1 + count_by not flags
one_unset flags = sum_by-append (λ (flag : Bool). cond (not flag) 1 0) (false ∷ []) flags

-- Each payload that has a flag is matched, or its flag is not set.
pub matched_or_not : (xs : List (List ℕ)) (flags : List Bool) → length flags ≡ length xs
    → length (matched_of xs flags) + count_by not flags ≡ length flags
matched_or_not [] [] long = refl
matched_or_not [] (flag ∷ flags) long = absurd (omega arith)
matched_or_not (x ∷ xs) [] long = absurd (omega arith)
matched_or_not (x ∷ xs) (true ∷ flags) long =
    let rest = matched_or_not xs flags (omega arith) in omega (arith, rest)
matched_or_not (x ∷ xs) (false ∷ flags) long =
    let rest = matched_or_not xs flags (omega arith) in omega (arith, rest, one_unset flags)

module _ (by : By) (sent received : List Message) (hart : ℕ) (flags : Flags)
    (is : IsAligned by sent received hart flags) where
  pub adds_up : length flags.sent - count_by not flags.sent ≡ length flags.came - count_by not flags.came
  adds_up =
      let one = matched_or_not (known_payloads by hart sent) flags.sent is.matches.each_sent in
      let two = matched_or_not (known_payloads by hart received) flags.came is.matches.each_came in
      let same = ap length is.matches.same in
      omega (arith, one, two, same)

  pub whole_equal : (is_whole flags ≡ true) ↔ (known_payloads by hart sent ≡ known_payloads by hart received)
  whole_equal =
      let both = whole_is (known_payloads by hart sent) (known_payloads by hart received) flags is.matches is.beginning in (
        λ whole. both.0 (none whole),
        λ equal. all (both.1 equal),
      )
    where
      none : is_whole flags ≡ true → AreAllMatched flags
      none whole =
          let parts = and_parts (count_by not flags.sent == 0) (count_by not flags.came == 0) whole in
          (eqb-true _ _ parts.0, eqb-true _ _ parts.1)

      all : AreAllMatched flags → is_whole flags ≡ true
      all none = and_from _ _ (eq-eqb _ _ none.0) (eq-eqb _ _ none.1)
