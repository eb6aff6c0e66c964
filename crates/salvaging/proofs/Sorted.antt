-- Messages that were sorted are in order.
use Rattle.std.proofs.Common.{◌≡◌, ◌⊎◌, inl, inr, ℕ, suc, ◌≤◌, ◌<◌, Bool, true, false, cond, List, [], ◌∷◌, length}
use Rattle.std.proofs.Common.{◌==◌, get_or, refl, sym, ap, subst, ◌∙◌, arith}
use Rattle.std.specs.Prelude.{MatchBool, ⊤}
use Rattle.std.specs.Borrow.{Bor}
use Rattle.std.specs.Cmp.{IsStrictWeakOrder, IsTotalOrder}
use Rattle.std.specs.Cmp.Lexicographic.{slice_cmp}
use Rattle.std.specs.Fn.{Called, ComparesAs}
use Rattle.std.specs.List.Sorted.{IsSortedBy}
use Rattle.std.proofs.lemmas.Fn.{always_returns_same}
use denote.Param.Members.{Mut}
use Rattle.std.specs.Ordering.{is_lt, nat_cmp, ordering_reverse, ordering_then}
use Rattle.std.specs.declared.cmp.Ordering.{Ordering}
use Rattle.std.specs.declared.cmp.Ordering.TheVariants.{Less, Equal, Greater}
use Rattle.std.proofs.lemmas.Bool.{cases_lt, lt-ltb}
use Rattle.std.proofs.lemmas.Cmp.{nat_cmp_total, nat_list_cmp_total, on_total, then_total, tied_itself}
use Rattle.std.proofs.lemmas.List.Elements.{All-map, All-weaker}
use Rattle.std.proofs.lemmas.List.Sorted.{ranks_by, sorted_far}
use Rattle.std.specs.FinMap.{nat_cmp-IsAntisymmetric, slice_cmp-IsAntisymmetric}
use Rattle.salvaging.specs.declared.received.ReceivedMessage.{ReceivedMessage}
use Rattle.salvaging.specs.steps.Arrivals.{Arrival, AreOrdered, IsUpTo, Rise, arrival_cmp, arrival_of, arrivals_in}

pub arrivals_total : IsTotalOrder arrival_cmp
arrivals_total =
    then_total (on_total (λ (a : Arrival). a.message.number) nat_cmp_total)
    (then_total (on_total (λ (a : Arrival). a.message.payload) nat_list_cmp_total)
    (on_total (λ (a : Arrival). a.place) nat_cmp_total))

-- The first of two numbers is lower.
cmp_less : (x y : ℕ) → x < y → nat_cmp x y ≡ Less
cmp_less x y below = ap (λ b. cond b Less (cond (x == y) Equal Greater)) (lt-ltb x y below)

cmp_same : (x y : ℕ) → x ≡ y → nat_cmp x y ≡ Equal
cmp_same x y is = subst (λ n. nat_cmp x n ≡ Equal) is (tied_itself nat_cmp_total x)

not_higher : (x y : ℕ) → is_lt (nat_cmp y x) ≡ false → x ≤ y
not_higher x y is = by_place (cases_lt y x)
  where
    by_place : (y < x) ⊎ (x ≤ y) → x ≤ y
    by_place (inl below) = let less = cmp_less y x below in let never = sym (ap is_lt less) ∙ is in cc
    by_place (inr fine) = fine

abbrev by_payload_cmp : Arrival → Arrival → Ordering
by_payload_cmp one other =
    ordering_then (slice_cmp nat_cmp one.message.payload other.message.payload) (nat_cmp one.place other.place)

-- The second of two is not before the first.
up_to : (one other : Arrival) → is_lt (arrival_cmp other one) ≡ false → IsUpTo one other
up_to one other is = by_place (cases_lt one.message.number other.message.number)
  where
    by_payload : one.message.number ≡ other.message.number → (order : Ordering)
        → slice_cmp nat_cmp other.message.payload one.message.payload ≡ order
        → is_lt (ordering_then order (nat_cmp other.place one.place)) ≡ false → IsUpTo one other
    by_payload numbers Less payloads is = cc
    by_payload numbers Equal payloads is =
        inr (
          numbers,
          inr (
            sym (slice_cmp-IsAntisymmetric nat_cmp-IsAntisymmetric other.message.payload one.message.payload payloads),
            not_higher one.place other.place is,
          ),
        )
    by_payload numbers Greater payloads is =
        inr (
          numbers,
          inl (nat_list_cmp_total.antisymm one.message.payload other.message.payload
              ∙ ap ordering_reverse payloads),
        )

    by_place : (one.message.number < other.message.number) ⊎ (other.message.number ≤ one.message.number)
        → IsUpTo one other
    by_place (inl below) = inl below
    by_place (inr over) = by_equal (cases_lt other.message.number one.message.number)
      where
        by_equal : (other.message.number < one.message.number) ⊎ (one.message.number ≤ other.message.number)
            → IsUpTo one other
        by_equal (inl below) =
            let less = cmp_less other.message.number one.message.number below in
            let never = sym (ap (λ o. is_lt (ordering_then o (by_payload_cmp other one))) less) ∙ is in
            cc
        by_equal (inr least) =
            let numbers : one.message.number ≡ other.message.number = omega (arith, over, least) in
            let equal = cmp_same other.message.number one.message.number (sym numbers) in
            by_payload numbers (slice_cmp nat_cmp other.message.payload one.message.payload) refl
            (sym (ap (λ o. is_lt (ordering_then o (by_payload_cmp other one))) equal) ∙ is)

-- Each of sorted messages stands before those behind it.
ordered_by : (came : List ReceivedMessage)
    → ((i j : ℕ) (d : ReceivedMessage) → i < j → j < length came
    → is_lt (arrival_cmp (arrival_of (get_or came j d)) (arrival_of (get_or came i d))) ≡ false)
    → AreOrdered (arrivals_in came)
ordered_by [] far = tt
ordered_by (first ∷ came) far = (
  All-map (IsUpTo (arrival_of first)) arrival_of came
      (λ k d within. up_to (arrival_of first) (arrival_of (get_or came k d)) (far 0 (suc k) d (omega arith)
      (omega (arith, within)))),
  ordered_by came (λ i j d below within. far (suc i) (suc j) d (omega (arith, below)) (omega (arith, within))),
)

abbrev pub is_before : ReceivedMessage → ReceivedMessage → Bool
is_before one other = is_lt (arrival_cmp (arrival_of one) (arrival_of other))

pub ordered_of_sorted : (came : List ReceivedMessage) → IsSortedBy is_before came → AreOrdered (arrivals_in came)
ordered_of_sorted came sorted =
    ordered_by came (λ i j d below within.
    sorted_far is_before (ranks_by arrivals_total arrival_of) came sorted i j d (omega (arith, below)) within)

-- Messages whose numbers rise are in order.
pub ordered_of_rising : (arrivals : List Arrival) → Rise arrivals → AreOrdered arrivals
ordered_of_rising [] rise = tt
ordered_of_rising (first ∷ arrivals) (below, rise) = (
  All-weaker (λ (other : Arrival). first.message.number < other.message.number) (IsUpTo first)
      (λ other lower. inl lower) arrivals below,
  ordered_of_rising arrivals rise,
)

-- What a sort by the order of messages leaves is in order.
pub ordered_from_sort : {F : Type 0} {g : Mut F (Bor ReceivedMessage × (Bor ReceivedMessage
    × Unit {0})) Ordering} {f : F}
    (came : List ReceivedMessage)
    → ((lt : ReceivedMessage → ReceivedMessage → Bool) → IsStrictWeakOrder lt → ComparesAs g lt f → IsSortedBy lt came)
    → ((a : Bor ReceivedMessage × (Bor ReceivedMessage × Unit {0})) (r : Ordering) (after : F) → Called g f a r after
    → (r ≡ arrival_cmp (arrival_of a.0.now) (arrival_of a.1.0.now)) × (after ≡ f))
    → AreOrdered (arrivals_in came)
ordered_from_sort {g = g} {f = f} came sorted calls =
    ordered_of_sorted came (sorted is_before (ranks_by arrivals_total arrival_of)
    (always_returns_same g (λ a r. is_lt r ≡ is_before a.0.now a.1.0.now) f
    (λ a r after called. (ap is_lt (calls a r after called).0, (calls a r after called).1))))

-- Where the test is true, what it says holds.
pub said_by_test : (test : Bool) (P : Type 0) → MatchBool test P ⊤ → test ≡ true → P
said_by_test true P said is = said
said_by_test false P said is = cc
