-- The entry of messages of one number, with one message more.
use Rattle.std.proofs.Common.{◌≡◌, ◌≢◌, ◌⊎◌, inl, inr, ℕ, ◌≤◌, ◌++◌, Bool, true, false, List, [], ◌∷◌}
use Rattle.std.proofs.Common.{refl, sym, ap, subst, ◌∙◌, arith}
use Rattle.std.specs.Prelude.{nat_lt}
use Rattle.std.specs.Str.{bytes_eq}
use Rattle.std.proofs.lemmas.Bool.{ltb-false, ltb-true}
use Rattle.salvaging.specs.Entries.{Entry, Used, Doubtful, entry_number}
use Rattle.salvaging.specs.steps.Arrivals.{Arrival, IsUpTo}
use Rattle.salvaging.specs.steps.Grouping.{doubtful_at, doubtful_with, entry_apart, entry_with, kept_or_apart}
use Rattle.salvaging.proofs.Alike.{other_bytes, same_bytes}
use Rattle.salvaging.proofs.Members.{IsIn}
use Rattle.salvaging.proofs.OrderLemmas.{Each, between, came_first, each_in}

-- Of these messages, the one at this place is the earliest with the number, and all with the number have its payload.
pub record IsUsedOf (arrivals : List Arrival) (number place : ℕ) (payload : List ℕ) : Type 0 where
  pub one : Arrival
  pub there : IsIn one arrivals
  pub place_is : one.place ≡ place
  pub number_is : one.message.number ≡ number
  pub payload_is : one.message.payload ≡ payload
  pub first : (other : Arrival) → IsIn other arrivals → other.message.number ≡ number → place ≤ other.place
  pub alone : (other : Arrival) → IsIn other arrivals → other.message.number ≡ number
      → other.message.payload ≡ payload

-- Two of these messages have the number. The one is the earliest with it, and the other the earliest of those whose
-- payload is another.
pub record IsDoubtfulOf (arrivals : List Arrival) (number first second : ℕ) : Type 0 where
  pub one : Arrival
  pub other : Arrival
  pub one_there : IsIn one arrivals
  pub other_there : IsIn other arrivals
  pub one_place : one.place ≡ first
  pub other_place : other.place ≡ second
  pub one_number : one.message.number ≡ number
  pub other_number : other.message.number ≡ number
  pub differ : one.message.payload ≢ other.message.payload
  pub least : (arrival : Arrival) → IsIn arrival arrivals → arrival.message.number ≡ number → first ≤ arrival.place
  pub least_other : (arrival : Arrival) → IsIn arrival arrivals → arrival.message.number ≡ number
      → arrival.message.payload ≢ one.message.payload → second ≤ arrival.place

abbrev pub IsEntryAmong : List Arrival → Entry → Type 0
IsEntryAmong arrivals (Used number place payload) = IsUsedOf arrivals number place payload
IsEntryAmong arrivals (Doubtful number first second) = IsDoubtfulOf arrivals number first second

-- Members of two lists.
pub in_left : (xs ys : List Arrival) (x : Arrival) → IsIn x xs → IsIn x (xs ++ ys)
in_left [] ys x there = absurd there
in_left (y ∷ xs) ys x (inl is) = inl is
in_left (y ∷ xs) ys x (inr there) = inr (in_left xs ys x there)

pub in_right : (xs ys : List Arrival) (x : Arrival) → IsIn x ys → IsIn x (xs ++ ys)
in_right [] ys x there = there
in_right (y ∷ xs) ys x there = inr (in_right xs ys x there)

pub in_either : (xs ys : List Arrival) (x : Arrival) → IsIn x (xs ++ ys) → IsIn x xs ⊎ IsIn x ys
in_either [] ys x there = inr there
in_either (y ∷ xs) ys x (inl is) = inl (inl is)
in_either (y ∷ xs) ys x (inr there) = by_rest (in_either xs ys x there)
  where
    by_rest : IsIn x xs ⊎ IsIn x ys → IsIn x (y ∷ xs) ⊎ IsIn x ys
    by_rest (inl left) = inl (inr left)
    by_rest (inr right) = inr right

pub in_one : (x y : Arrival) → IsIn x (y ∷ []) → x ≡ y
in_one x y (inl is) = is
in_one x y (inr none) = absurd none

-- The messages of one number so far, their entry, and the last of them in their order.
pub record IsGroup (group : List Arrival) (before : Arrival) (entry : Entry) : Type 0 where
  pub is_entry : IsEntryAmong group entry
  pub numbers : (one : Arrival) → IsIn one group → one.message.number ≡ entry_number entry
  pub last : IsIn before group
  pub greatest : (one : Arrival) → IsIn one group → (one ≡ before) ⊎ IsUpTo one before

-- One of the group.
pub member : (group : List Arrival) (entry : Entry) → IsEntryAmong group entry → (one : Arrival) × IsIn one group
member group (Used number place payload) is = (is.one, is.there)
member group (Doubtful number first second) is = (is.one, is.one_there)

apart_number : (entry : Entry) (place : ℕ) → entry_number (entry_apart entry place) ≡ entry_number entry
apart_number (Used number at payload) place = by_test (nat_lt at place)
  where
    by_test : (below : Bool) → entry_number (doubtful_at below number at place) ≡ number
    by_test true = refl
    by_test false = refl
apart_number (Doubtful number first second) place = by_tests (nat_lt place first) (nat_lt place second)
  where
    by_tests : (least below : Bool) → entry_number (doubtful_with least below number first second place) ≡ number
    by_tests true below = refl
    by_tests false true = refl
    by_tests false false = refl

pub number_kept : (entry : Entry) (before next : Arrival)
    → entry_number (entry_with entry before next) ≡ entry_number entry
number_kept entry before next = by_test (bytes_eq before.message.payload next.message.payload)
  where
    by_test : (same : Bool) → entry_number (kept_or_apart same entry next.place) ≡ entry_number entry
    by_test true = refl
    by_test false = apart_number entry next.place

-- One more of the number.
module _ (group : List Arrival) (before next : Arrival) (number : ℕ)
    (numbers : (one : Arrival) → IsIn one group → one.message.number ≡ number) (last : IsIn before group)
    (here : next.message.number ≡ number) (upto : Each (λ one. IsUpTo one next) group) where
  abbrev longer : List Arrival
  longer = group ++ next ∷ []

  next_there : IsIn next longer
  next_there = in_right group (next ∷ []) next (inl refl)

  there_too : (one : Arrival) → IsIn one group → IsIn one longer
  there_too one there = in_left group (next ∷ []) one there

  -- What holds of the group and of the next one holds of all.
  of_all : (P : Arrival → Type 0) → ((one : Arrival) → IsIn one group → P one) → P next
      → (one : Arrival) → IsIn one longer → P one
  of_all P each own one there = by_place (in_either group (next ∷ []) one there)
    where
      by_place : IsIn one group ⊎ IsIn one (next ∷ []) → P one
      by_place (inl inside) = each one inside
      by_place (inr is) = subst P (sym (in_one one next is)) own

  -- Its payload is that of the last one.
  module _ (same : before.message.payload ≡ next.message.payload) where
    no_earlier : before.place ≤ next.place
    no_earlier =
        came_first before next (each_in (λ one. IsUpTo one next) group before upto last) (record {
          number = numbers before last ∙ sym here;
          payload = same;
        })

    kept_as_used : (place : ℕ) (payload : List ℕ) → IsUsedOf group number place payload
        → IsUsedOf longer number place payload
    kept_as_used place payload is = record {
      one = is.one;
      there = there_too is.one is.there;
      place_is = is.place_is;
      number_is = is.number_is;
      payload_is = is.payload_is;
      first = of_all (λ one. one.message.number ≡ number → place ≤ one.place) is.first (λ numbered.
          let least = is.first before last (numbers before last) in
          omega (arith, least, no_earlier));
      alone = of_all (λ one. one.message.number ≡ number → one.message.payload ≡ payload) is.alone (λ numbered.
          sym same ∙ is.alone before last (numbers before last));
    }

    kept_as_doubtful : (first second : ℕ) → IsDoubtfulOf group number first second
        → IsDoubtfulOf longer number first second
    kept_as_doubtful first second is = record {
      one = is.one;
      other = is.other;
      one_there = there_too is.one is.one_there;
      other_there = there_too is.other is.other_there;
      one_place = is.one_place;
      other_place = is.other_place;
      one_number = is.one_number;
      other_number = is.other_number;
      differ = is.differ;
      least = of_all (λ one. one.message.number ≡ number → first ≤ one.place) is.least (λ numbered.
          let least = is.least before last (numbers before last) in
          omega (arith, least, no_earlier));
      least_other = of_all (λ one. one.message.number ≡ number → one.message.payload ≢ is.one.message.payload
          → second ≤ one.place) is.least_other (λ numbered apart.
          let least = is.least_other before last (numbers before last) (λ is_one. apart (sym same ∙ is_one)) in
          omega (arith, least, no_earlier));
    }

  -- Its payload is that of none.
  module _ (apart : (one : Arrival) → IsIn one group → one.message.payload ≢ next.message.payload) where
    apart_from_used : (at : ℕ) (payload : List ℕ) → IsUsedOf group number at payload → (below : Bool)
        → nat_lt at next.place ≡ below → IsEntryAmong longer (doubtful_at below number at next.place)
    apart_from_used at payload is true test =
        let earlier = ltb-true at next.place test in
        record {
          one = is.one;
          other = next;
          one_there = there_too is.one is.there;
          other_there = next_there;
          one_place = is.place_is;
          other_place = refl;
          one_number = is.number_is;
          other_number = here;
          differ = apart is.one is.there;
          least = of_all (λ one. one.message.number ≡ number → at ≤ one.place) is.first
              (λ numbered. omega (arith, earlier));
          least_other = of_all (λ one. one.message.number ≡ number
              → one.message.payload ≢ is.one.message.payload → next.place ≤ one.place)
              (λ one there numbered other. absurd (other (is.alone one there numbered ∙ sym is.payload_is)))
              (λ numbered other. omega arith);
        }
    apart_from_used at payload is false test =
        let later = ltb-false at next.place test in
        record {
          one = next;
          other = is.one;
          one_there = next_there;
          other_there = there_too is.one is.there;
          one_place = refl;
          other_place = is.place_is;
          one_number = here;
          other_number = is.number_is;
          differ = λ same. apart is.one is.there (sym same);
          least = of_all (λ one. one.message.number ≡ number → next.place ≤ one.place)
              (λ one there numbered. let least = is.first one there numbered in omega (arith, least, later))
              (λ numbered. omega arith);
          least_other = of_all (λ one. one.message.number ≡ number
              → one.message.payload ≢ next.message.payload → at ≤ one.place)
              (λ one there numbered other. is.first one there numbered)
              (λ numbered other. absurd (other refl));
        }

    apart_from_doubtful : (first second : ℕ) → IsDoubtfulOf group number first second → (least below : Bool)
        → nat_lt next.place first ≡ least → nat_lt next.place second ≡ below
        → IsEntryAmong longer (doubtful_with least below number first second next.place)
    apart_from_doubtful first second is true below least_is below_is =
        let earlier = ltb-true next.place first least_is in
        record {
          one = next;
          other = is.one;
          one_there = next_there;
          other_there = there_too is.one is.one_there;
          one_place = refl;
          other_place = is.one_place;
          one_number = here;
          other_number = is.one_number;
          differ = λ same. apart is.one is.one_there (sym same);
          least = of_all (λ one. one.message.number ≡ number → next.place ≤ one.place)
              (λ one there numbered. let least = is.least one there numbered in omega (arith, least, earlier))
              (λ numbered. omega arith);
          least_other = of_all (λ one. one.message.number ≡ number
              → one.message.payload ≢ next.message.payload → first ≤ one.place)
              (λ one there numbered other. is.least one there numbered)
              (λ numbered other. absurd (other refl));
        }
    apart_from_doubtful first second is false true least_is below_is =
        let later = ltb-false next.place first least_is in
        let earlier = ltb-true next.place second below_is in
        record {
          one = is.one;
          other = next;
          one_there = there_too is.one is.one_there;
          other_there = next_there;
          one_place = is.one_place;
          other_place = refl;
          one_number = is.one_number;
          other_number = here;
          differ = apart is.one is.one_there;
          least = of_all (λ one. one.message.number ≡ number → first ≤ one.place) is.least
              (λ numbered. omega (arith, later));
          least_other = of_all (λ one. one.message.number ≡ number
              → one.message.payload ≢ is.one.message.payload → next.place ≤ one.place)
              (λ one there numbered other.
              let least = is.least_other one there numbered other in
              omega (arith, least, earlier))
              (λ numbered other. omega arith);
        }
    apart_from_doubtful first second is false false least_is below_is =
        let later = ltb-false next.place first least_is in
        let later_too = ltb-false next.place second below_is in
        record {
          one = is.one;
          other = is.other;
          one_there = there_too is.one is.one_there;
          other_there = there_too is.other is.other_there;
          one_place = is.one_place;
          other_place = is.other_place;
          one_number = is.one_number;
          other_number = is.other_number;
          differ = is.differ;
          least = of_all (λ one. one.message.number ≡ number → first ≤ one.place) is.least
              (λ numbered. omega (arith, later));
          least_other = of_all (λ one. one.message.number ≡ number
              → one.message.payload ≢ is.one.message.payload → second ≤ one.place) is.least_other
              (λ numbered other. omega (arith, later_too));
        }

more_entry : (group : List Arrival) (before next : Arrival) (entry : Entry)
    → ((one : Arrival) → IsIn one group → one.message.number ≡ entry_number entry) → IsIn before group
    → next.message.number ≡ entry_number entry → Each (λ one. IsUpTo one next) group
    → (same : Bool) → bytes_eq before.message.payload next.message.payload ≡ same
    → (before.message.payload ≢ next.message.payload
    → (one : Arrival) → IsIn one group → one.message.payload ≢ next.message.payload)
    → IsEntryAmong group entry → IsEntryAmong (group ++ next ∷ []) (kept_or_apart same entry next.place)
more_entry group before next (Used number place payload) numbers last here upto true test apart is =
    kept_as_used group before next number numbers last here upto
    (same_bytes before.message.payload next.message.payload test) place payload is
more_entry group before next (Doubtful number first second) numbers last here upto true test apart is =
    kept_as_doubtful group before next number numbers last here upto
    (same_bytes before.message.payload next.message.payload test) first second is
more_entry group before next (Used number place payload) numbers last here upto false test apart is =
    apart_from_used group before next number numbers last here upto
    (apart (other_bytes before.message.payload next.message.payload test)) place payload is
    (nat_lt place next.place) refl
more_entry group before next (Doubtful number first second) numbers last here upto false test apart is =
    apart_from_doubtful group before next number numbers last here upto
    (apart (other_bytes before.message.payload next.message.payload test)) first second is (nat_lt next.place first)
    (nat_lt next.place second) refl refl

pub more_in_group : (group : List Arrival) (before next : Arrival) (entry : Entry) → IsGroup group before entry
    → entry_number entry ≡ next.message.number → Each (λ one. IsUpTo one next) group
    → IsGroup (group ++ next ∷ []) next (entry_with entry before next)
more_in_group group before next entry g here upto = record {
  is_entry = more_entry group before next entry g.numbers g.last (sym here) upto
      (bytes_eq before.message.payload next.message.payload) refl apart g.is_entry;
  numbers = λ one there. by_place one (in_either group (next ∷ []) one there) ∙ sym (number_kept entry before next);
  last = in_right group (next ∷ []) next (inl refl);
  greatest = λ one there. up_to_next one (in_either group (next ∷ []) one there);
}
  where
    by_place : (one : Arrival) → IsIn one group ⊎ IsIn one (next ∷ []) → one.message.number ≡ entry_number entry
    by_place one (inl there) = g.numbers one there
    by_place one (inr there) = ap (λ (a : Arrival). a.message.number) (in_one one next there) ∙ sym here

    up_to_next : (one : Arrival) → IsIn one group ⊎ IsIn one (next ∷ []) → (one ≡ next) ⊎ IsUpTo one next
    up_to_next one (inl there) = inr (each_in (λ one. IsUpTo one next) group one upto there)
    up_to_next one (inr there) = inl (in_one one next there)

    -- Payloads are in order, so one like the next one's would be the last one's too.
    apart : before.message.payload ≢ next.message.payload → (one : Arrival) → IsIn one group
        → one.message.payload ≢ next.message.payload
    apart differ one there same = by_order (g.greatest one there)
      where
        by_order : (one ≡ before) ⊎ IsUpTo one before → ⊥
        by_order (inl is) = differ (sym (ap (λ (a : Arrival). a.message.payload) is) ∙ same)
        by_order (inr below) =
            let alike = between one before next below (each_in (λ one. IsUpTo one next) group before upto g.last)
            (record { number = g.numbers one there ∙ here; payload = same }) in
            differ (sym alike.payload ∙ same)
