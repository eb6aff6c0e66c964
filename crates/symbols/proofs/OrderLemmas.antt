-- Entries that a sort put in order, and where a search among them ends.
use Rattle.std.proofs.Common.{◌≡◌, ℕ, zero, suc, ◌+◌, ◌-◌, ◌<◌, ◌≤◌, Bool, true, false, List, Some, None}
use Rattle.std.proofs.Common.{length, slice_index_or, nat_le, subst, refl, inl, inr, arith}
use Rattle.std.proofs.lemmas.Bool.{cases_Bool}
use Rattle.std.proofs.lemmas.Bool.Decides.{nat_tests}
use Rattle.std.proofs.lemmas.List.{get_or_default}
use Rattle.std.specs.List.Sorted.{IsPartitionPoint, IsPartitionedBy, IsSortedBy}
use Rattle.std.specs.Ordering.{is_lt, nat_cmp, ordering_then}
use Rattle.symbols.specs.declared.entry.Entry.{Entry}
use Rattle.symbols.specs.steps.Entries.{IsInOrder, IsUpTo}
use Rattle.symbols.specs.steps.Found.{IsLastUpTo}

-- The test by which entries are sorted.
abbrev pub is_before : Entry → Entry → Bool
is_before x y = is_lt (ordering_then (nat_cmp x.address y.address) (nat_cmp x.start y.start))

upto_tested : (x y : Entry) → is_before y x ≡ false → IsUpTo x y
upto_tested x y e = grind (arith, nat_tests)

upto_itself : (x : Entry) → IsUpTo x x
upto_itself x = inr (refl, omega arith)

upto_trans : (x y z : Entry) → IsUpTo x y → IsUpTo y z → IsUpTo x z
upto_trans x y z (inl a) (inl b) = inl (omega (arith, a, b))
upto_trans x y z (inl a) (inr b) = inl (omega (arith, a, b.0))
upto_trans x y z (inr a) (inl b) = inl (omega (arith, a.0, b))
upto_trans x y z (inr a) (inr b) = inr (omega (arith, a.0, b.0), omega (arith, a.1, b.1))

upto_far : (xs : List Entry) → IsSortedBy is_before xs → (i n : ℕ) (d : Entry) → i + n < length xs
    → IsUpTo (slice_index_or xs i d) (slice_index_or xs (i + n) d)
upto_far xs sorted i zero d inside =
    let here : i ≡ i + 0 = omega arith in
    let P : ℕ → Type 0 = λ k. IsUpTo (slice_index_or xs i d) (slice_index_or xs k d) in
    subst P here (upto_itself (slice_index_or xs i d))
upto_far xs sorted i (suc n) d inside =
    let next : i + n + 1 ≡ i + suc n = omega arith in
    let within : i + n + 1 < length xs = omega (arith, inside) in
    let low : i + n < length xs = omega (arith, inside) in
    let P : ℕ → Type 0 = λ k. IsUpTo (slice_index_or xs i d) (slice_index_or xs k d) in
    subst P next
    (upto_trans (slice_index_or xs i d) (slice_index_or xs (i + n) d) (slice_index_or xs (i + n + 1) d)
    (upto_far xs sorted i n d low)
    (upto_tested (slice_index_or xs (i + n) d) (slice_index_or xs (i + n + 1) d)
    (sorted (i + n) d (omega arith) within)))

-- Sorted entries are in order.
pub in_order : (xs : List Entry) → IsSortedBy is_before xs → IsInOrder xs
in_order xs sorted i j d le inside =
    let there : i + (j - i) ≡ j = omega (arith, le) in
    let within : i + (j - i) < length xs = omega (arith, inside, there) in
    let P : ℕ → Type 0 = λ k. IsUpTo (slice_index_or xs i d) (slice_index_or xs k d) in
    subst P there (upto_far xs sorted i (j - i) d within)

-- An entry stands at or below a place.
abbrev pub is_up_to : ℕ → Entry → Bool
is_up_to place entry = nat_le entry.address place

-- Of entries in order, those at or below a place come first.
pub order_parted : (place : ℕ) (xs : List Entry) → IsInOrder xs → IsPartitionedBy (is_up_to place) xs
order_parted place xs ordered i j d le inside test =
    let low : (slice_index_or xs j d).address ≤ place = grind (arith, nat_tests) in
    let upto : (slice_index_or xs i d).address ≤ (slice_index_or xs j d).address =
    elim (ordered i j d le inside) [ inl less ↦ omega (arith, less) | inr same ↦ omega (arith, same.0) ] in
    let below : (slice_index_or xs i d).address ≤ place = omega (arith, upto, low) in
    grind (arith, nat_tests)

abbrev Parts : ℕ → List Entry → ℕ → Type 0
Parts place xs count =
    IsPartitionPoint (λ e. is_up_to place e ≡ true) (λ e. is_up_to place e ≡ false) xs count

-- All stand above the place.
pub none_up_to : (place : ℕ) (xs : List Entry) (count : ℕ) → Parts place xs count → count ≡ 0
    → IsLastUpTo xs place None
none_up_to place xs count parts none k d inside =
    let first : count ≤ k = omega (arith, none) in
    let test = parts.1 k d first inside in
    grind (arith, nat_tests)

-- The last of those at or below the place.
pub last_of_them : (place : ℕ) (xs : List Entry) (count : ℕ) (zeros : Entry) → IsInOrder xs → Parts place xs count
    → count ≤ length xs → ¬ (count ≡ 0) → IsLastUpTo xs place (Some (slice_index_or xs (count - 1) zeros))
last_of_them place xs count zeros ordered parts few some =
    let last = slice_index_or xs (count - 1) zeros in
    let inside : count - 1 < length xs = omega (arith, few, some) in
    let one : count - 1 < count = omega (arith, some) in
    let low : last.address ≤ place =
    let test = parts.0 (count - 1) zeros (omega arith) one in grind (arith, nat_tests) in
    let itself : slice_index_or xs (count - 1) last ≡ last = get_or_default xs (count - 1) last zeros inside in (
      (count - 1, inside, itself),
      low,
      λ k d within. elim (cases_Bool (nat_le count k)) [
        | inl behind ↦
            let far : count ≤ k = grind (arith, nat_tests) in
            let test = parts.1 k d far within in
            let above : place < (slice_index_or xs k d).address = grind (arith, nat_tests) in
            inl above
        | inr front ↦
            let near : k ≤ count - 1 = grind (arith, nat_tests) in
            inr (subst (IsUpTo (slice_index_or xs k d)) (get_or_default xs (count - 1) d zeros inside)
            (ordered k (count - 1) d near inside))
      ],
    )
