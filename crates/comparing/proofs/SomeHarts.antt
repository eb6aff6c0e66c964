-- What there is of some harts among what there is of each.
use Rattle.std.proofs.Common.{◌≡◌, ◌∙◌, ◌<◌, ◌≤◌, ◌+◌, ◌-◌, ◌^◌, ℕ, zero, suc, Bool, List, [], ◌∷◌, Some, ap, arith, drop, length}
use Rattle.std.proofs.Common.{refl, slice_get, sym, take}
use Rattle.std.proofs.lemmas.List.{get_or-drop, get_or-take, length-drop, length-take, take_all}
use Rattle.std.specs.Prelude.{min}
use Rattle.std.proofs.lemmas.Option.{slice_get-get_or}
use Rattle.message.specs.Range.{every_hart}
use Rattle.message.specs.declared.range.HartRange.{HartRange}
use Rattle.retire.specs.declared.event.Event.{Event}
use Rattle.comparing.specs.Compared.{got_by, gots_by, of_harts}
use Rattle.comparing.specs.declared.hart_count.HartCount.{HartCount}
use Rattle.comparing.specs.steps.Held.{count_in, got_at}
use Rattle.comparing.proofs.DecodedHarts.{gots_many}
use Rattle.comparing.proofs.HeldHarts.{got_here}

-- A place within the first items of a list is within the list.
take_within : {X : Type 0} (n : ℕ) (items : List X) (i : ℕ) → i < length (take n items)
    → (i < n) × (i < length items)
take_within zero items i within = absurd (omega (arith, within))
take_within (suc n) [] i within = absurd (omega (arith, within))
take_within (suc n) (item ∷ items) zero within = (omega arith, omega arith)
take_within (suc n) (item ∷ items) (suc i) within =
    let rest = take_within n items i (omega (arith, within)) in
    let few = rest.0 in
    let here = rest.1 in (omega (arith, few), omega (arith, here))

-- Lists of the same length have as many first items, and as many last ones.
take_same : {X Y : Type 0} (n : ℕ) (items : List X) (others : List Y) → length items ≡ length others
    → length (take n items) ≡ length (take n others)
take_same zero items others same = refl
take_same (suc n) [] [] same = refl
take_same (suc n) [] (other ∷ others) same = absurd (omega (arith, same))
take_same (suc n) (item ∷ items) [] same = absurd (omega (arith, same))
take_same (suc n) (item ∷ items) (other ∷ others) same =
    ap (λ n. suc n) (take_same n items others (omega (arith, same)))

drop_same : {X Y : Type 0} (n : ℕ) (items : List X) (others : List Y) → length items ≡ length others
    → length (drop n items) ≡ length (drop n others)
drop_same n items others same =
    length-drop n items ∙ ap (λ many. many - n) same ∙ sym (length-drop n others)

-- There is as much of some harts.
pub of_same : {X Y : Type 0} (range : HartRange) (items : List X) (others : List Y) → length items ≡ length others
    → length (of_harts range items) ≡ length (of_harts range others)
of_same range items others same =
    take_same (range.last + 1 - range.first) (drop range.first items) (drop range.first others)
    (drop_same range.first items others same)

-- Of all harts there is everything, where they are few enough.
pub of_all : {X : Type 0} (each : List X) → length each ≤ 2 ^ 16 → of_harts every_hart each ≡ each
of_all each few = take_all 65536 each few

module _ (count : ℕ → HartCount) where
  first_gots : (n hart : ℕ) (lists : List (List Event)) (closed : List Bool) → length closed ≡ length lists
      → take n (gots_by count hart lists closed) ≡ gots_by count hart (take n lists) (take n closed)
  first_gots zero hart lists closed same = refl
  first_gots (suc n) hart [] closed same = refl
  first_gots (suc n) hart (list ∷ lists) [] same = absurd (omega (arith, same))
  first_gots (suc n) hart (list ∷ lists) (flag ∷ closed) same =
      ap (λ rest. got_by (count hart) list flag ∷ rest) (first_gots n (hart + 1) lists closed (omega (arith, same)))

  last_gots : (n hart : ℕ) (lists : List (List Event)) (closed : List Bool) → length closed ≡ length lists
      → drop n (gots_by count hart lists closed) ≡ gots_by count (hart + n) (drop n lists) (drop n closed)
  last_gots zero hart lists closed same =
      let here : hart ≡ hart + 0 = omega arith in ap (λ hart. gots_by count hart lists closed) here
  last_gots (suc n) hart [] closed same = refl
  last_gots (suc n) hart (list ∷ lists) [] same = absurd (omega (arith, same))
  last_gots (suc n) hart (list ∷ lists) (flag ∷ closed) same =
      let there : hart + 1 + n ≡ hart + suc n = omega arith in
      last_gots n (hart + 1) lists closed (omega (arith, same))
      ∙ ap (λ hart. gots_by count hart (drop n lists) (drop n closed)) there

  -- What is got of some harts is what is got of their lists.
  pub of_gots : (range : HartRange) (lists : List (List Event)) (closed : List Bool) → length closed ≡ length lists
      → of_harts range (gots_by count 0 lists closed)
      ≡ gots_by count (0 + range.first) (of_harts range lists) (of_harts range closed)
  of_gots range lists closed same =
      let n = range.last + 1 - range.first in
      ap (take n) (last_gots range.first 0 lists closed same)
      ∙ first_gots n (0 + range.first) (drop range.first lists) (drop range.first closed)
      (drop_same range.first closed lists same)

-- What is held of one of some harts.
pub got_of : (range : HartRange) (counts : List HartCount) (i : ℕ) (lists : List (List Event)) (closed : List Bool)
    → length closed ≡ length lists → i < length (of_harts range (gots_by (count_in counts) 0 lists closed))
    → slice_get (of_harts range (gots_by (count_in counts) 0 lists closed)) i
    ≡ Some (got_at counts lists closed (range.first + i))
got_of range counts i lists closed same within =
    let gots = gots_by (count_in counts) 0 lists closed in
    let one = got_at counts lists closed (range.first + i) in
    let n = range.last + 1 - range.first in
    let places = take_within n (drop range.first gots) i within in
    let inside = places.1 in
    let left = length-drop range.first gots in
    let there : range.first + i < length gots = omega (arith, inside, left) in
    let many = gots_many (count_in counts) 0 lists closed same in
    slice_get-get_or (of_harts range gots) i one within
    ∙ ap (λ got. Some got) (get_or-take n (drop range.first gots) i one places.0 ∙ get_or-drop range.first gots i one)
    ∙ sym (slice_get-get_or gots (range.first + i) one there)
    ∙ got_here counts (range.first + i) lists closed same (omega (arith, there, many))

-- The hart at a place among some harts is one of these.
pub hart_within : {X : Type 0} (range : HartRange) (each : List X) (i : ℕ) → i < length (of_harts range each)
    → range.first + i ≤ range.last
hart_within range each i within =
    let few = (take_within (range.last + 1 - range.first) (drop range.first each) i within).0 in omega (arith, few)

-- And it is one of all.
pub hart_there : {X : Type 0} (range : HartRange) (each : List X) (i : ℕ) → i < length (of_harts range each)
    → range.first + i < length each
hart_there range each i within =
    let inside = (take_within (range.last + 1 - range.first) (drop range.first each) i within).1 in
    let left = length-drop range.first each in omega (arith, inside, left)

-- How much there is of some harts.
pub of_length : {X : Type 0} (range : HartRange) (each : List X)
    → length (of_harts range each) ≡ min (range.last + 1 - range.first) (length each - range.first)
of_length range each =
    let n = range.last + 1 - range.first in
    length-take n (drop range.first each) ∙ ap (min n) (length-drop range.first each)
