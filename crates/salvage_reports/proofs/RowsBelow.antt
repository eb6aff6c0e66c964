-- How many rows are added below a key, of lists in order and with their sums.
use Rattle.std.proofs.Common.{◌≡◌, ◌∙◌, ◌+◌, ◌-◌, ◌*◌, ◌^◌, ◌<◌, ◌≤◌, ◌++◌, ℕ, zero, suc, List, [], ◌∷◌, ap, arith}
use Rattle.std.proofs.Common.{get_or, length, map, take, refl, sym}
use Rattle.std.specs.Prelude.{◌&&◌, ◌==◌, All, if◌then◌else◌, nat_le, nat_lt, sum_by}
use Rattle.std.specs.List.Sorted.{IsNonDecreasingBy, IsPermutation}
use Rattle.std.proofs.lemmas.Bool.{le-ltb, lt-ltb}
use Rattle.std.proofs.lemmas.Bool.Decides.{nat_tests}
use Rattle.std.proofs.lemmas.List.Elements.{All-head, All-tail}
use Rattle.std.proofs.lemmas.List.Sorted.{sum_by-IsPermutation}
use Rattle.std.proofs.lemmas.List.Sums.{sum_by-cons}
use Rattle.message.specs.declared.message.Message.{Message}
use Rattle.salvaging.specs.declared.treatment.Treated.{Treated}
use Rattle.salvage_reports.specs.HartRows.{adds_up_to, rows_up_to}
use Rattle.salvage_reports.specs.declared.hart_rows.Counted.{Counted}
use Rattle.salvage_reports.specs.declared.hart_rows.Summed.{Summed}
use Rattle.salvage_reports.specs.steps.Counted.{HasNumber, adds_below, counted_of, key_in, key_of, rows_below, rows_in, summed}

-- One more with the sums.
pub summed_push : (before : ℕ) (xs : List Counted) (x : Counted)
    → summed before (xs ++ x ∷ []) ≡ summed before xs ++ record { key = x.key; rows = before + sum_by rows_in xs + x.rows } ∷ []
summed_push before [] x =
    let same : before + x.rows ≡ before + 0 + x.rows = omega arith in
    ap (λ rows. record { key = x.key; rows = rows } ∷ []) same
summed_push before (y ∷ xs) x =
    let cons = sum_by-cons rows_in y xs in
    let same : before + y.rows + sum_by rows_in xs + x.rows ≡ before + sum_by rows_in (y ∷ xs) + x.rows =
    omega (arith, cons) in
    ap (λ l. record { key = y.key; rows = before + y.rows } ∷ l) (summed_push (before + y.rows) xs x
    ∙ ap (λ rows. summed (before + y.rows) xs ++ record { key = x.key; rows = rows } ∷ []) same)

pub summed_long : (before : ℕ) (xs : List Counted) → length (summed before xs) ≡ length xs
summed_long before [] = refl
summed_long before (x ∷ xs) = omega (arith, summed_long (before + x.rows) xs)

-- The keys stay.
key_at : (before : ℕ) (xs : List Counted) (i : ℕ) (d : Counted) (e : Summed) → i < length xs
    → (get_or (summed before xs) i e).key ≡ (get_or xs i d).key
key_at before [] i d e inside = absurd (omega (arith, inside))
key_at before (x ∷ xs) zero d e inside = refl
key_at before (x ∷ xs) (suc i) d e inside = key_at (before + x.rows) xs i d e (omega (arith, inside))

-- Each has the rows of all up to it.
rows_at : (before : ℕ) (xs : List Counted) (i : ℕ) (e : Summed) → i < length xs
    → (get_or (summed before xs) i e).rows ≡ before + sum_by rows_in (take (suc i) xs)
rows_at before [] i e inside = absurd (omega (arith, inside))
rows_at before (x ∷ xs) zero e inside = omega (arith, sum_by-cons rows_in x [])
rows_at before (x ∷ xs) (suc i) e inside =
    omega (arith, rows_at (before + x.rows) xs i e (omega (arith, inside)), sum_by-cons rows_in x (take (suc i) xs))

none : Counted
none = record { key = 0; rows = 0 }

-- So they are in order too.
pub summed_rises : (before : ℕ) (xs : List Counted) → IsNonDecreasingBy key_in xs
    → IsNonDecreasingBy (λ (one : Summed). one.key) (summed before xs)
summed_rises before xs ordered i j d le inside =
    let within : j < length xs = omega (arith, inside, summed_long before xs) in
    omega (
      arith,
      key_at before xs i none d (omega (arith, le, within)),
      key_at before xs j none d within,
      ordered i j none le within,
    )

adds_in : (key : ℕ) (x : Counted) → x.key < key → adds_below key x ≡ x.rows
adds_in key x below = ap (λ b. if b then x.rows else 0) (lt-ltb x.key key below)

adds_out : (key : ℕ) (x : Counted) → key ≤ x.key → adds_below key x ≡ 0
adds_out key x above = ap (λ b. if b then x.rows else 0) (le-ltb x.key key above)

-- Where those below a key come first, so many of them, their rows are those below it.
parted : (key : ℕ) (xs : List Counted) (count : ℕ)
    → ((k : ℕ) → k < count → k < length xs → (get_or xs k none).key < key)
    → ((k : ℕ) → count ≤ k → k < length xs → key ≤ (get_or xs k none).key)
    → sum_by rows_in (take count xs) ≡ rows_below key xs
parted key [] zero below above = refl
parted key [] (suc count) below above = refl
parted key (x ∷ xs) zero below above =
    let rest = parted key xs zero (λ k less. absurd (omega (arith, less)))
    (λ k more inside. above (suc k) (omega arith) (omega (arith, inside))) in
    omega (arith, rest, sum_by-cons (adds_below key) x xs, adds_out key x (above zero (omega arith) (omega arith)))
parted key (x ∷ xs) (suc count) below above =
    let rest = parted key xs count (λ k less inside. below (suc k) (omega (arith, less)) (omega (arith, inside)))
    (λ k more inside. above (suc k) (omega (arith, more)) (omega (arith, inside))) in
    omega (
      arith,
      rest,
      sum_by-cons (adds_below key) x xs,
      sum_by-cons rows_in x (take count xs),
      adds_in key x (below zero (omega arith) (omega arith)),
    )

module _ (key : ℕ) (xs : List Counted) (count : ℕ) (few : count ≤ length xs)
    (below : (k : ℕ) (d : Summed) → k < count → (get_or (summed 0 xs) k d).key < key)
    (above : (k : ℕ) (d : Summed) → count ≤ k → k < length (summed 0 xs) → key ≤ (get_or (summed 0 xs) k d).key) where
  empty : Summed
  empty = record { key = 0; rows = 0 }

  all_below : sum_by rows_in (take count xs) ≡ rows_below key xs
  all_below =
      parted key xs count
      (λ k less inside. omega (arith, below k empty less, key_at 0 xs k none empty inside))
      (λ k more inside. omega (
        arith,
        above k empty more (omega (arith, inside, summed_long 0 xs)),
        key_at 0 xs k none empty inside,
      ))

  -- No row is below the key.
  pub none_below : count ≡ 0 → 0 ≡ rows_below key xs
  none_below is = sym (ap (λ n. sum_by rows_in (take n xs)) is) ∙ all_below

  -- The sum of the last one below the key is of all rows below it.
  pub last_below : (d : Summed) → ¬ (count ≡ 0) → (get_or (summed 0 xs) (count - 1) d).rows ≡ rows_below key xs
  last_below d some =
      let place : suc (count - 1) ≡ count = omega (arith, some) in
      let at = rows_at 0 xs (count - 1) d (omega (arith, some, few)) in
      omega (arith, at, ap (λ n. sum_by rows_in (take n xs)) place, all_below)

-- What one adds below two keys of a hart is what it adds between.
module _ (hart number : ℕ) (in_range : number < 2 ^ 64) where
  test_is : (one other : ℕ) → other < 2 ^ 64 → (h : ℕ)
      → (if nat_lt (h * 2 ^ 64 + other) (hart * 2 ^ 64 + number + 1) then one else 0)
      ≡ (if nat_lt (h * 2 ^ 64 + other) (hart * 2 ^ 64 + 0) then one else 0)
      + (if (h == hart) && nat_le other number then one else 0)
  test_is one other range h = grind (arith, nat_tests)

  pub between : (one : Message × Treated) → HasNumber one
      → adds_below (key_of hart number + 1) (counted_of one)
      ≡ adds_below (key_of hart 0) (counted_of one) + adds_up_to hart number one
  between one range = test_is _ one.0.number range one.0.hart

  pub all_between : (all : List (Message × Treated)) → All HasNumber all
      → rows_below (key_of hart number + 1) (map counted_of all)
      ≡ rows_below (key_of hart 0) (map counted_of all) + rows_up_to hart number all
  all_between [] ranges = refl
  all_between (one ∷ all) ranges =
      let rest = all_between all (All-tail HasNumber one all ranges) in
      let here = between one (All-head HasNumber one all ranges) in
      omega (
        arith,
        rest,
        here,
        sum_by-cons (adds_below (key_of hart number + 1)) (counted_of one) (map counted_of all),
        sum_by-cons (adds_below (key_of hart 0)) (counted_of one) (map counted_of all),
        sum_by-cons (adds_up_to hart number) one all,
      )

-- The order does not matter.
pub in_any_order : (key : ℕ) (xs ys : List Counted) → IsPermutation xs ys → rows_below key ys ≡ rows_below key xs
in_any_order key xs ys same = sum_by-IsPermutation (adds_below key) xs ys same
