-- Ranges that are found piece by piece.
use Rattle.std.proofs.Common.{◌≡◌, ℕ, zero, suc, ◌+◌, ◌-◌, ◌≤◌, ◌==◌, if◌then◌else◌, Bool, true, false, List, [], ◌∷◌, drop, length}
use Rattle.std.proofs.Common.{Option, Some, None, option_map, is_some, refl, sym, ap, ◌∙◌, arith}
use Rattle.std.specs.List.{slice_get}
use Rattle.rvclass.proofs.PlacedLemmas.{length_placed}
use Rattle.rvclass.specs.Memory.{Memory, in_order}
use Rattle.rvclass.specs.Piece.{Piece, end_of, extent_of}
use Rattle.explaining.specs.Ranges.{range_from, ranges_after, ranges_of}
use Rattle.explaining.specs.declared.ranges.Range.{Range}
use Rattle.explaining.specs.steps.JoinedRanges.{behind, carried, lists_one, passed, ranges_on}

-- One piece more.
step : (range : Option Range) (p : Piece) (ps : List Piece) → ranges_on range (p ∷ ps)
    ≡ behind (passed range (Some (extent_of p))) (ranges_on (carried range (Some (extent_of p))) ps)
step None p ps = go (length p.bytes == 0)
  where
    go : (b : Bool) → (if b then ranges_of ps else ranges_after (range_from p.base (end_of p)) ps)
        ≡ ranges_on (if b then None else Some (range_from p.base (end_of p))) ps
    go true = refl
    go false = refl
step (Some range) p ps = go (length p.bytes == 0) (p.base == range.end)
  where
    go : (b c : Bool) →
        (if b then ranges_after range ps else
        if c then ranges_after (range_from range.first (end_of p)) ps else
        range ∷ ranges_after (range_from p.base (end_of p)) ps)
        ≡ behind (if b then None else if c then None else Some range)
        (ranges_on (if b then Some range else if c then Some (range_from range.first (end_of p)) else
        Some (range_from p.base (end_of p))) ps)
    go true c = refl
    go false true = refl
    go false false = refl

abbrev empty : List Piece
empty = []

none_more : (range : Option Range) → ranges_on range [] ≡ behind (passed range None) (ranges_on (carried range None) [])
none_more None = refl
none_more (Some range) = refl

drop_nothing : (i : ℕ) → drop i empty ≡ empty
drop_nothing zero = refl
drop_nothing (suc i) = refl

-- The ranges from a place on, by the piece there.
pub on_step : (all : List Piece) (i : ℕ) (range : Option Range) (extent : Option (ℕ × ℕ))
    → extent ≡ option_map extent_of (slice_get all i)
    → ranges_on range (drop i all) ≡ behind (passed range extent) (ranges_on (carried range extent) (drop (i + 1) all))
on_step [] i range extent is =
    ap (ranges_on range) (drop_nothing i) ∙ none_more range
    ∙ (λ j. behind (passed range (sym is j)) (ranges_on (carried range (sym is j)) (sym (drop_nothing (i + 1)) j)))
on_step (p ∷ ps) zero range extent is =
    step range p ps ∙ (λ j. behind (passed range (sym is j)) (ranges_on (carried range (sym is j)) ps))
on_step (p ∷ ps) (suc i) range extent is =
    let next : suc i + 1 ≡ suc (i + 1) = omega arith in
    on_step ps i range extent is
    ∙ ap (λ n. behind (passed range extent) (ranges_on (carried range extent) (drop n (p ∷ ps)))) (sym next)

-- After the last piece.
pub ends_here : (range : Option Range) → ranges_on range [] ≡ behind range []
ends_here None = refl
ends_here (Some range) = refl

drop_all : (ps : List Piece) (n : ℕ) → n ≡ length ps → drop n ps ≡ empty
drop_all [] n is = ap (λ n. drop n empty) is
drop_all (p ∷ ps) zero is = cc
drop_all (p ∷ ps) (suc n) is = drop_all ps n (omega (arith, is))

pub order_length : (m : Memory) → length (in_order m) ≡ length m
order_length [] = refl
order_length (first ∷ others) = length_placed first others

pub after_all : (m : Memory) (n : ℕ) (range : Option Range) → n ≡ length m
    → ranges_on range (drop n (in_order m)) ≡ behind range []
after_all m n range is = ap (ranges_on range) (drop_all (in_order m) n (is ∙ sym (order_length m))) ∙ ends_here range

-- There are not more ranges than pieces.
pub one_each : (range : Option Range) (extent : Option (ℕ × ℕ))
    → lists_one (passed range extent) + lists_one (carried range extent) ≤ lists_one range + 1
one_each None None = omega arith
one_each (Some range) None = omega arith
one_each None (Some extent) = go (extent.1 == 0)
  where
    go : (b : Bool) → 0 + lists_one (if b then None else Some (range_from extent.0 (extent.0 + extent.1))) ≤ 0 + 1
    go true = omega arith
    go false = omega arith
one_each (Some range) (Some extent) = go (extent.1 == 0) (extent.0 == range.end)
  where
    go : (b c : Bool) → lists_one (if b then None else if c then None else Some range)
        + lists_one (if b then Some range else if c then Some (range_from range.first (extent.0 + extent.1)) else
        Some (range_from extent.0 (extent.0 + extent.1))) ≤ 1 + 1
    go true c = omega arith
    go false true = omega arith
    go false false = omega arith

behind_length : (range : Option Range) (ranges : List Range)
    → length (behind range ranges) ≡ lists_one range + length ranges
behind_length None ranges = omega arith
behind_length (Some range) ranges = omega arith

-- The ranges from a place on, by what the code found of the piece there.
module _ (all : List Piece) (i : ℕ) (range : Option Range) (extent : Option (ℕ × ℕ)) (one next : Option Range)
    (is : extent ≡ option_map extent_of (slice_get all i)) (found : one ≡ passed range extent)
    (goes : next ≡ carried range extent) where
  stepped : ranges_on range (drop i all) ≡ behind one (ranges_on next (drop (i + 1) all))
  stepped =
      on_step all i range extent is
      ∙ (λ j. behind (sym found j) (ranges_on (sym goes j) (drop (i + 1) all)))

  -- The first of them is the one that ends here.
  pub first_ends : (r : Range) (n : ℕ) → one ≡ Some r → n ≡ 0 → slice_get (ranges_on range (drop i all)) n ≡ Some r
  first_ends r n some none =
      ap (λ l. slice_get l n) (stepped ∙ ap (λ o. behind o (ranges_on next (drop (i + 1) all))) some)
      ∙ ap (slice_get (r ∷ ranges_on next (drop (i + 1) all))) none

  -- Another is among those that are left.
  pub later_one : (r : Range) (n : ℕ) → one ≡ Some r → ¬ (n ≡ 0)
      → slice_get (ranges_on range (drop i all)) n ≡ slice_get (ranges_on next (drop (i + 1) all)) (n - 1)
  later_one r zero some other = absurd (other refl)
  later_one r (suc n) some other =
      let less : suc n - 1 ≡ n = omega arith in
      ap (λ l. slice_get l (suc n)) (stepped ∙ ap (λ o. behind o (ranges_on next (drop (i + 1) all))) some)
      ∙ ap (slice_get (ranges_on next (drop (i + 1) all))) (sym less)

  pub none_ends : (n : ℕ) → ((r : Range) → one ≡ Some r → ⊥)
      → slice_get (ranges_on range (drop i all)) n ≡ slice_get (ranges_on next (drop (i + 1) all)) n
  none_ends n none = ap (λ l. slice_get l n) (stepped ∙ go one refl)
    where
      go : (o : Option Range) → one ≡ o
          → behind one (ranges_on next (drop (i + 1) all)) ≡ ranges_on next (drop (i + 1) all)
      go None e = ap (λ o. behind o (ranges_on next (drop (i + 1) all))) e
      go (Some r) e = absurd (none r e)

  -- How many they are.
  pub counted : length (ranges_on range (drop i all)) ≡ lists_one one + length (ranges_on next (drop (i + 1) all))
  counted = ap length stepped ∙ behind_length one (ranges_on next (drop (i + 1) all))

  pub not_more : lists_one one + lists_one next ≤ lists_one range + 1
  not_more = rw (found, goes) (one_each range extent)

pub is_one : (range : Option Range) → is_some range ≡ true → lists_one range ≡ 1
is_one None some = cc
is_one (Some range) some = refl

pub is_none : (range : Option Range) → is_some range ≡ false → lists_one range ≡ 0
is_none None none = refl
is_none (Some range) none = cc

module _ (m : Memory) (n : ℕ) (range : Option Range) (all : n ≡ length m) where
  -- After all pieces one range may be left.
  pub last_one : (k : ℕ) → k ≡ 0 → slice_get (ranges_on range (drop n (in_order m))) k ≡ range
  last_one k none =
      ap (λ l. slice_get l k) (after_all m n range all) ∙ ap (slice_get (behind range [])) none ∙ go range
    where
      go : (range : Option Range) → slice_get (behind range []) 0 ≡ range
      go None = refl
      go (Some range) = refl

  pub no_later : (k : ℕ) → ¬ (k ≡ 0) → slice_get (ranges_on range (drop n (in_order m))) k ≡ None
  no_later zero other = absurd (other refl)
  no_later (suc k) other = ap (λ l. slice_get l (suc k)) (after_all m n range all) ∙ go range
    where
      go : (range : Option Range) → slice_get (behind range []) (suc k) ≡ None
      go None = refl
      go (Some range) = refl

  pub left_counted : length (ranges_on range (drop n (in_order m))) ≡ lists_one range
  left_counted = ap length (after_all m n range all) ∙ behind_length range [] ∙ omega arith
