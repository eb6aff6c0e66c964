-- The counts of all harts that a report is on come to as many messages as there are.
use Rattle.std.proofs.Common.{◌≡◌, ℕ, zero, suc, ◌+◌, ◌-◌, ◌^◌, ◌<◌, ◌≤◌, ◌&&◌, ◌==◌, Bool, true, false}
use Rattle.std.proofs.Common.{List, [], ◌∷◌, Option, Some, if◌then◌else◌, ap, arith, drop, length, refl, slice_get, sym}
use Rattle.std.proofs.Common.{take, ◌∙◌}
use Rattle.std.specs.Prelude.{nat_le, sum_by}
use Rattle.std.specs.List.{filter}
use Rattle.std.specs.declared.alloc.Global.{Global}
use Rattle.std.proofs.lemmas.Bool.{eqb-true, lt-leb}
use Rattle.std.proofs.lemmas.List.Sums.{sum_by-cons}
use Rattle.frames.specs.Start.{spans_of}
use Rattle.frames.specs.declared.span.Span.{Span}
use Rattle.message.specs.OfHart.{of_hart}
use Rattle.message.specs.Range.{selected, selects}
use Rattle.message.specs.declared.message.Message.{Message}
use Rattle.message.specs.declared.range.HartRange.{HartRange}
use Rattle.rvclass.specs.Image.{Image}
use Rattle.salvaging.specs.CountedOnce.{alone_of, bad_of, counted_of}
use Rattle.salvaging.specs.FarGaps.{far_passed, far_taken}
use Rattle.salvaging.specs.Strangers.{has_number}
use Rattle.salvaging.specs.declared.salvaged.SalvagedHart.{SalvagedHart}
use Rattle.salvaging.proofs.CountedOnce.{counted_once}
use Rattle.salvaging.proofs.FarCounts.{passed_few, taken_few}
use Rattle.salvage_reports.specs.Found.{IsFound}
use Rattle.salvage_reports.specs.Frames.{messages_in}
use Rattle.salvage_reports.specs.HartItems.{items_of}
use Rattle.salvage_reports.specs.Totals.{hart_count, total_of}
use Rattle.salvage_reports.specs.TotalsAddUp.{TotalsAddUp, kinds}
use Rattle.salvage_reports.specs.declared.found.Found.{Found}
use Rattle.salvage_reports.specs.declared.salvaged_items.Total.{Total}
use Rattle.salvage_reports.specs.declared.salvaged_items.Total.TheVariants as total
use Rattle.salvage_reports.proofs.CappedSums.{capped_small}
use Rattle.salvage_reports.proofs.OwnSpans.{messages_chosen}

-- What is nothing of each is nothing of all.
sum_none : {X : Type 0} (f : X → ℕ) (xs : List X) → ((k : ℕ) (x : X) → slice_get xs k ≡ Some x → f x ≡ 0)
    → sum_by f xs ≡ 0
sum_none f [] none = refl
sum_none f (x ∷ xs) none =
    let cons = sum_by-cons f x xs in
    let here = none 0 x refl in
    let rest = sum_none f xs (λ k. none (suc k)) in
    omega (arith, cons, here, rest)

-- Items that count nothing may be left out at the end, and at the beginning.
sum_taken : {X : Type 0} (f : X → ℕ) (n : ℕ) (xs : List X)
    → ((k : ℕ) (x : X) → slice_get xs k ≡ Some x → n ≤ k → f x ≡ 0) → sum_by f (take n xs) ≡ sum_by f xs
sum_taken f zero xs none = sym (sum_none f xs (λ k x here. none k x here (omega arith)))
sum_taken f (suc n) [] none = refl
sum_taken f (suc n) (x ∷ xs) none =
    let first = sum_by-cons f x (take n xs) in
    let all = sum_by-cons f x xs in
    let rest = sum_taken f n xs (λ k y here above. none (suc k) y here (omega (arith, above))) in
    omega (arith, first, all, rest)

sum_dropped : {X : Type 0} (f : X → ℕ) (n : ℕ) (xs : List X)
    → ((k : ℕ) (x : X) → slice_get xs k ≡ Some x → k < n → f x ≡ 0) → sum_by f (drop n xs) ≡ sum_by f xs
sum_dropped f zero xs none = refl
sum_dropped f (suc n) [] none = refl
sum_dropped f (suc n) (x ∷ xs) none =
    let all = sum_by-cons f x xs in
    let here = none 0 x refl (omega arith) in
    let rest = sum_dropped f n xs (λ k y here below. none (suc k) y here (omega (arith, below))) in
    omega (arith, all, here, rest)

taken_at : {X : Type 0} (n : ℕ) (xs : List X) (k : ℕ) (x : X) → slice_get (take n xs) k ≡ Some x
    → slice_get xs k ≡ Some x
taken_at zero xs k x here = cc
taken_at (suc n) [] k x here = here
taken_at (suc n) (y ∷ xs) zero x here = here
taken_at (suc n) (y ∷ xs) (suc k) x here = taken_at n xs k x here

-- So only items of these harts count.
sum_chosen : {X : Type 0} (f : X → ℕ) (only : HartRange) (xs : List X)
    → ((k : ℕ) (x : X) → slice_get xs k ≡ Some x → selects only k ≡ false → f x ≡ 0)
    → sum_by f (items_of only xs) ≡ sum_by f xs
sum_chosen f only xs none =
    sum_dropped f only.first (take (only.last + 1) xs)
    (λ k x here below. none k x (taken_at (only.last + 1) xs k x here) (before k below))
    ∙ sum_taken f (only.last + 1) xs (λ k x here above. none k x here (after k above))
  where
    before : (k : ℕ) → k < only.first → selects only k ≡ false
    before k below = ap (λ b. b && nat_le k only.last) (lt-leb only.first k below)

    after : (k : ℕ) → only.last + 1 ≤ k → selects only k ≡ false
    after k above =
        ap (λ b. nat_le only.first k && b) (lt-leb k only.last (omega (arith, above))) ∙ and_false (nat_le only.first k)
      where
        and_false : (b : Bool) → (b && false) ≡ false
        and_false true = refl
        and_false false = refl

-- A hart that is not one of these has no message among theirs.
none_of_hart : (only : HartRange) (hart : ℕ) (messages : List Message) → selects only hart ≡ false
    → of_hart hart (selected only messages) ≡ []
none_of_hart only hart [] out = refl
none_of_hart only hart (message ∷ messages) out =
    by_tests (none_of_hart only hart messages out) (selects only message.hart) refl (message.hart == hart) refl
  where
    by_tests : of_hart hart (selected only messages) ≡ [] → (chosen : Bool) → selects only message.hart ≡ chosen
        → (own : Bool) → (message.hart == hart) ≡ own
        → of_hart hart (if chosen then message ∷ selected only messages else selected only messages) ≡ []
    by_tests rest false test own same = rest
    by_tests rest true test true same =
        let is = eqb-true message.hart hart same in
        let no : selects only message.hart ≡ false = ap (selects only) is ∙ out in
        cc
    by_tests rest true test false same =
        ap (λ b. if b then message ∷ of_hart hart (selected only messages) else of_hart hart (selected only messages)) same
        ∙ rest

-- What is counted of a hart comes to its messages.
abbrev FarAreFew : SalvagedHart Global → Type 0
FarAreFew own = (far_taken own.far.items ≤ own.decoded) × (far_passed own.far.items ≤ own.passed)

abbrev of_one : Total → SalvagedHart Global → ℕ
of_one what own = hart_count what own

one_hart : (own : SalvagedHart Global) → FarAreFew own
    → of_one total.Decoded own + (of_one total.Passed own + (of_one total.Far own + (of_one total.Bad own
    + (of_one total.Alone own + (of_one total.Doubtful own + of_one total.Copies own))))) ≡ counted_of own
one_hart own (few, rest) =
    let bad : of_one total.Bad own ≡ bad_of own = refl in
    let alone : of_one total.Alone own ≡ alone_of own = refl in
    omega (arith, few, rest, bad, alone)

abbrev of_all : Total → List (SalvagedHart Global) → ℕ
of_all what harts = sum_by (hart_count what) harts

all_harts : (harts : List (SalvagedHart Global))
    → ((k : ℕ) (own : SalvagedHart Global) → slice_get harts k ≡ Some own → FarAreFew own)
    → of_all total.Decoded harts + (of_all total.Passed harts + (of_all total.Far harts + (of_all total.Bad harts
    + (of_all total.Alone harts + (of_all total.Doubtful harts + of_all total.Copies harts)))))
    ≡ sum_by counted_of harts
all_harts [] few = refl
all_harts (own ∷ harts) few =
    let here = one_hart own (few 0 own refl) in
    let rest = all_harts harts (λ k. few (suc k)) in
    let decoded = sum_by-cons (hart_count total.Decoded) own harts in
    let passed = sum_by-cons (hart_count total.Passed) own harts in
    let far = sum_by-cons (hart_count total.Far) own harts in
    let bad = sum_by-cons (hart_count total.Bad) own harts in
    let alone = sum_by-cons (hart_count total.Alone) own harts in
    let doubtful = sum_by-cons (hart_count total.Doubtful) own harts in
    let copies = sum_by-cons (hart_count total.Copies) own harts in
    let counted = sum_by-cons counted_of own harts in
    omega (arith, here, rest, decoded, passed, far, bad, alone, doubtful, copies, counted)

dropped_at : {X : Type 0} (n : ℕ) (xs : List X) (k : ℕ) (x : X) → slice_get (drop n xs) k ≡ Some x
    → (j : ℕ) × (slice_get xs j ≡ Some x)
dropped_at zero xs k x here = (k, here)
dropped_at (suc n) [] k x here = (k, here)
dropped_at (suc n) (y ∷ xs) k x here = let found = dropped_at n xs k x here in (suc found.0, found.1)

-- A count that is below 2^64 is said as it is.
module _ (harts : List (SalvagedHart Global)) (spans : List Span) (strangers messages : ℕ) (fits : messages < 2 ^ 64)
    (sums : of_all total.Decoded harts + (of_all total.Passed harts + (of_all total.Far harts + (of_all total.Bad harts
    + (of_all total.Alone harts + (of_all total.Doubtful harts + of_all total.Copies harts))))) + strangers ≡ messages)
  where
    all_said : sum_by (total_of harts spans strangers) kinds ≡ messages
    all_said =
        let decoded = capped_small (of_all total.Decoded harts) (omega (arith, sums, fits)) in
        let passed = capped_small (of_all total.Passed harts) (omega (arith, sums, fits)) in
        let far = capped_small (of_all total.Far harts) (omega (arith, sums, fits)) in
        let bad = capped_small (of_all total.Bad harts) (omega (arith, sums, fits)) in
        let alone = capped_small (of_all total.Alone harts) (omega (arith, sums, fits)) in
        let doubtful = capped_small (of_all total.Doubtful harts) (omega (arith, sums, fits)) in
        let copies = capped_small (of_all total.Copies harts) (omega (arith, sums, fits)) in
        omega (arith, sums, decoded, passed, far, bad, alone, doubtful, copies)

-- The messages that are read are those of these harts.
module _ (only : HartRange) (asked : Option ℕ) (program : Image) (bytes : List ℕ) (found : Found)
    (is : IsFound only asked program bytes found) where
  abbrev spans : List Span
  spans = spans_of found.header bytes

  abbrev messages : List Message
  messages = selected only (messages_in spans)

  abbrev harts : List (SalvagedHart Global)
  harts = found.salvaged.harts.items

  same : found.frames.messages.items ≡ messages
  same = is.frames.messages ∙ messages_chosen only spans

  chosen : sum_by counted_of (items_of only harts) ≡ sum_by counted_of harts
  chosen =
      sum_chosen counted_of only harts (λ k own here out.
      (counted_once _ _ _ messages found.salvaged is.salvaged.left.left).each k own here
      ∙ ap (λ (l : List Message). length (filter has_number l)) (none_of_hart only k (messages_in spans) out))

  few : (k : ℕ) (own : SalvagedHart Global) → slice_get (items_of only harts) k ≡ Some own → FarAreFew own
  few k own here =
      let at = dropped_at only.first (take (only.last + 1) harts) k own here in
      let one = is.salvaged.left.left.each at.0 own (taken_at (only.last + 1) harts at.0 own at.1) in
      (taken_few _ _ _ own one, passed_few _ _ _ own one)

  added_up : length found.frames.messages.items < 2 ^ 64
      → sum_by (total_of (items_of only harts) spans found.salvaged.strangers) kinds ≡ length found.frames.messages.items
  added_up fits =
      let sums = all_harts (items_of only harts) few in
      let left_out = chosen in
      let long = ap length same in
      let all = (counted_once _ _ _ messages found.salvaged is.salvaged.left.left).all in
      all_said (items_of only harts) spans found.salvaged.strangers (length found.frames.messages.items) fits
      (omega (arith, sums, left_out, long, all))

pub totals_add_up : TotalsAddUp
totals_add_up only asked program bytes found is fits = added_up only asked program bytes found is fits
