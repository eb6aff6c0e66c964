-- What is counted of lists that come piece by piece.
use Rattle.std.proofs.Common.{◌≡◌, ◌∙◌, ◌⊎◌, ◌≤◌, ◌<◌, ◌+◌, ◌++◌, ◌-◌, ◌^◌, ℕ, zero, suc, Bool, true, false, true≢false, List}
use Rattle.std.proofs.Common.{ap, arith, inl, inr, length, refl, sym}
use Rattle.std.proofs.Math.Nat.{min-eq_left, min-eq_right}
use Rattle.std.proofs.lemmas.Bool.{eq-eqb, eqb-true, ne_eqb}
use Rattle.std.proofs.lemmas.List.{length-append}
use Rattle.std.specs.Prelude.{◌==◌, ◌&&◌, if◌then◌else◌, min, slice_get}
use Rattle.bench.specs.declared.verdict.Verdict.{Verdict}
use Rattle.bench.specs.declared.verdict.Verdict.TheVariants.{Beginning, Differs, Whole}
use Rattle.bench.specs.Verdict.{count_alike}
use Rattle.retire.specs.Log.{most_long_rows}
use Rattle.retire.specs.declared.event.Event.{Event}
use Rattle.comparing.specs.Compared.{AreNext, HasCompared}
use Rattle.comparing.specs.RowsAbout.{near_rows, rows_about}
use Rattle.comparing.specs.Verdicts.{verdict_at}
use Rattle.comparing.specs.declared.near.NearRows.{NearRows}
use Rattle.comparing.specs.declared.pieces.Comparing.{Comparing}
use Rattle.comparing.specs.steps.Moved.{IsMoved}
use Rattle.comparing.proofs.AlikePieces.{alike_few, alike_on, alike_stays, alike_within}
use Rattle.comparing.proofs.RowsMoved.{near_goes_on, near_stays}

-- The greatest count.
abbrev most : ℕ
most = 2 ^ 64 - 1

either : (a b : ℕ) → (a ≤ b) ⊎ (b ≤ a)
either zero b = inl (omega arith)
either (suc a) zero = inr (omega arith)
either (suc a) (suc b) = go (either a b)
  where
    go : (a ≤ b) ⊎ (b ≤ a) → (suc a ≤ suc b) ⊎ (suc b ≤ suc a)
    go (inl few) = inl (omega (arith, few))
    go (inr few) = inr (omega (arith, few))

-- A count that is not at its greatest is the number itself.
pub below_most : (n m : ℕ) → (min n m ≡ m → ⊥) → min n m ≡ n
below_most n m never = go (either n m)
  where
    go : (n ≤ m) ⊎ (m ≤ n) → min n m ≡ n
    go (inl few) = min-eq_left few
    go (inr over) = absurd (never (min-eq_right over))

-- A count that stays at a greatest one stays at that with more.
pub min_add : (a b m : ℕ) → min (min a m + b) m ≡ min (a + b) m
min_add a b m = go (either a m)
  where
    go : (a ≤ m) ⊎ (m ≤ a) → min (min a m + b) m ≡ min (a + b) m
    go (inl few) = ap (λ n. min (n + b) m) (min-eq_left few)
    go (inr over) =
        ap (λ n. min (n + b) m) (min-eq_right over) ∙ min-eq_right (omega arith) ∙ sym (min-eq_right (omega (arith, over)))

-- A small count is the same as a greatest one where it is the same as the count.
same_as : (k n : ℕ) → k < most → (k == min n most) ≡ (k == n)
same_as k n small = go (either n most)
  where
    go : (n ≤ most) ⊎ (most ≤ n) → (k == min n most) ≡ (k == n)
    go (inl few) = ap (λ n. k == n) (min-eq_left few)
    go (inr over) =
        ap (λ n. k == n) (min-eq_right over) ∙ ne_eqb k most (λ same. omega (arith, small, same))
        ∙ sym (ne_eqb k n (λ same. omega (arith, small, same, over)))

abbrev by_same : Bool → ℕ → ℕ → Bool → Verdict
by_same closed alike events same =
    if closed && (same && alike == events) then Whole else if same then Beginning else Differs (alike + 1)

-- So the verdict is by the count itself.
pub verdict_same : (closed : Bool) (alike decoded events : ℕ) → alike < most
    → verdict_at closed alike (min decoded most) events ≡ verdict_at closed alike decoded events
verdict_same closed alike decoded events small = ap (by_same closed alike events) (same_as alike decoded small)

module _ (before seen decoded events : List Event) (comparing : Comparing) (has : HasCompared before seen comparing)
    (next : AreNext before seen decoded events) (few : length (seen ++ events) ≤ most_long_rows) where
  abbrev are_alike : Bool
  are_alike = comparing.alike == comparing.events && comparing.alike == comparing.decoded

  both : (a b : Bool) → (a && b) ≡ true → (a ≡ true) × (b ≡ true)
  both true true is = (refl, refl)
  both true false is = cc
  both false b is = cc

  seen_few : length seen ≤ most_long_rows
  seen_few = let long = length-append seen events in omega (arith, few, long)

  -- All that came is alike, and as many of both.
  pub all_came : are_alike ≡ true → (count_alike before seen ≡ length seen) × (count_alike before seen ≡ length before)
  all_came is =
      let same = both (comparing.alike == comparing.events) (comparing.alike == comparing.decoded) is in
      let one = eqb-true comparing.alike comparing.events same.0 in
      let other = eqb-true comparing.alike comparing.decoded same.1 in
      let all : count_alike before seen ≡ length seen = sym has.alike ∙ one ∙ has.events in
      let limited : count_alike before seen ≡ min (length before) most = sym has.alike ∙ other ∙ has.counted in
      let short = seen_few in (all, limited ∙ go (either (length before) most) limited all short)
    where
      go : (length before ≤ most) ⊎ (most ≤ length before) → count_alike before seen ≡ min (length before) most
          → count_alike before seen ≡ length seen → length seen ≤ most_long_rows
          → min (length before) most ≡ length before
      go (inl below) limited all short = min-eq_left below
      go (inr over) limited all short =
          let is = min-eq_right over in absurd (omega (arith, is, limited, all, short))

  pub alike_more : are_alike ≡ true
      → count_alike (before ++ decoded) (seen ++ events) ≡ comparing.alike + count_alike decoded events
  alike_more is =
      let came = all_came is in
      alike_on before seen decoded events came.0 came.1 ∙ ap (λ n. n + count_alike decoded events) (sym has.alike)

  -- Or it is not.
  pub not_all : are_alike ≡ false
      → ¬ ((count_alike before seen ≡ length seen) × (count_alike before seen ≡ length before))
  not_all is = never
    where
      never : ¬ ((count_alike before seen ≡ length seen) × (count_alike before seen ≡ length before))
      never all =
          let short = seen_few in
          let first = all.0 in
          let second = all.1 in
          let one : comparing.alike ≡ comparing.events = has.alike ∙ all.0 ∙ sym has.events in
          let below : min (length before) most ≡ length before = min-eq_left (omega (arith, first, second, short)) in
          let other : comparing.alike ≡ comparing.decoded = has.alike ∙ all.1 ∙ sym below ∙ sym has.counted in
          let a = eq-eqb comparing.alike comparing.events one in
          let b = eq-eqb comparing.alike comparing.decoded other in
          true≢false (sym (ap (λ x. x && (comparing.alike == comparing.decoded)) a ∙ b) ∙ is)

  pub alike_same : are_alike ≡ false → count_alike (before ++ decoded) (seen ++ events) ≡ comparing.alike
  alike_same is = alike_stays before seen decoded events next (not_all is) ∙ sym has.alike

  -- So the rows about the first difference stay.
  pub near_same : are_alike ≡ false → comparing.near ≡ near_rows (before ++ decoded) (seen ++ events)
  near_same is =
      has.near ∙ near_stays before seen decoded events next (not_all is)
      ∙ ap (λ n. rows_about n (before ++ decoded) (seen ++ events))
      (sym (alike_stays before seen decoded events next (not_all is)))

  -- Or they go on, where so many are alike now.
  module _ (is : are_alike ≡ true) (alike : ℕ) (now : alike ≡ count_alike (before ++ decoded) (seen ++ events)) where
    more_is : alike - comparing.alike ≡ count_alike decoded events
    more_is = let sum = now ∙ alike_more is in omega (arith, sum)

    place_is : count_alike before seen + (alike - comparing.alike) ≡ count_alike (before ++ decoded) (seen ++ events)
    place_is =
        ap (λ n. n + (alike - comparing.alike)) (sym has.alike) ∙ ap (λ n. comparing.alike + n) more_is
        ∙ sym (alike_more is)

    pub near_on : (moved : NearRows) → moved.log ≡ slice_get events (alike - comparing.alike)
        → moved.decoded ≡ slice_get decoded (alike - comparing.alike)
        → IsMoved 1 (alike - comparing.alike) decoded comparing.near moved.one_before
        → IsMoved 2 (alike - comparing.alike) decoded comparing.near moved.two_before
        → IsMoved 3 (alike - comparing.alike) decoded comparing.near moved.three_before
        → moved ≡ near_rows (before ++ decoded) (seen ++ events)
    near_on moved log row one two three =
        let came = all_came is in
        near_goes_on before seen decoded events came.0 came.1 comparing.near has.near (alike - comparing.alike) moved
        log row one two three
        ∙ ap (λ n. rows_about n (before ++ decoded) (seen ++ events)) place_is

  -- What is alike is as little as the log.
  pub alike_short : comparing.alike + count_alike decoded events ≡ count_alike (before ++ decoded) (seen ++ events)
      → comparing.alike + count_alike decoded events ≤ most
  alike_short same =
      let short = alike_few (before ++ decoded) (seen ++ events) in omega (arith, few, same, short)

-- No more is alike than is counted of what was decoded.
pub within_counted : (decoded seen : List Event) (comparing : Comparing) → HasCompared decoded seen comparing
    → length seen ≤ most_long_rows → comparing.alike ≤ comparing.decoded
within_counted decoded seen comparing has few = go (either (length decoded) most)
  where
    go : (length decoded ≤ most) ⊎ (most ≤ length decoded) → comparing.alike ≤ comparing.decoded
    go (inl below) =
        let alike = has.alike in
        let counted = has.counted ∙ min-eq_left below in
        let within = alike_within decoded seen in omega (arith, alike, counted, within)
    go (inr over) =
        let alike = has.alike in
        let counted = has.counted ∙ min-eq_right over in
        let short = alike_few decoded seen in omega (arith, alike, counted, short, few)
