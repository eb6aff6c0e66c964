-- Of how many messages that of the next number is ahead.
use Rattle.std.proofs.Common.{◌≡◌, inl, inr, ℕ, ◌+◌, ◌<◌, ◌≤◌, ◌++◌, ◌==◌, ◌&&◌, ◌^◌, All, Bool, true, false, cond}
use Rattle.std.proofs.Common.{zero-add, List, [], ◌∷◌, length, map, refl, sym, ap, subst, ◌∙◌, append_assoc, arith}
use Rattle.std.specs.Prelude.{count_by, nat_lt, slice_set}
use Rattle.std.proofs.lemmas.Bool.{eqb-true, lt-ltb, le-ltb}
use Rattle.std.proofs.lemmas.List.{append-nil, length-map, length_push, map-append}
use Rattle.std.proofs.lemmas.List.Elements.{All-cons, All-nil}
use Rattle.std.proofs.lemmas.List.Sums.{sum_by-append, sum_by-cons}
use Rattle.salvaging.specs.Entries.{Entry, Used, Doubtful, entry_number}
use Rattle.salvaging.specs.Far.{ahead, comes_behind}
use Rattle.salvaging.specs.declared.ahead.TakenPlaces.{TakenPlaces}
use Rattle.salvaging.specs.steps.Ahead.{ArePlaced, AreTaken, CanTake, HasTaken, Takes, behind_entry, count_behind}
use Rattle.salvaging.specs.steps.Ahead.{flags_behind, lists_in, places_of, raised}
use Rattle.salvaging.proofs.BlockCounts.{all_behind, one_more_taken}
use Rattle.salvaging.proofs.FarByBound.{none_passes, one_of}
use Rattle.salvaging.proofs.Members.{IsIn, contains_of_in}
use Rattle.salvaging.proofs.OrderedEntries.{Rise, in_front, in_later, rise_front, rise_later}

-- Of the entries before these it is known how many messages each is ahead of, and their places are taken.
pub record AheadSo {A : Type 0} (entries : List Entry) (total : ℕ) (taken : TakenPlaces A) (counts : List ℕ)
    (rest : List Entry) (left : ℕ) : Type 0 where
  pub done : List Entry
  pub whole : entries ≡ done ++ rest
  pub counts_are : counts ≡ map (ahead entries) done
  pub has : HasTaken taken (places_of done)
  pub total_is : length taken.taken.items ≡ total
  pub few : length counts + left ≤ total

places-append : (xs ys : List Entry) → places_of (xs ++ ys) ≡ places_of xs ++ places_of ys
places-append [] ys = refl
places-append (Used number place payload ∷ xs) ys = ap (λ l. place ∷ l) (places-append xs ys)
places-append (Doubtful number first second ∷ xs) ys = places-append xs ys

few_places : (xs : List Entry) → length (places_of xs) ≤ length xs
few_places [] = omega arith
few_places (Used number place payload ∷ xs) = let few = few_places xs in omega (arith, few)
few_places (Doubtful number first second ∷ xs) = let few = few_places xs in omega (arith, few)

pub place_in : (xs : List Entry) (place : ℕ) → IsIn place (places_of xs)
    → (number : ℕ) × (payload : List ℕ) × IsIn (Used number place payload) xs
place_in [] place one = absurd one
place_in (Used number at payload ∷ xs) place (inl is) =
    (number, payload, inl (ap (λ p. Used number p payload) is))
place_in (Used number at payload ∷ xs) place (inr one) =
    let found = place_in xs place one in
    (found.0, found.1, inr found.2)
place_in (Doubtful number first second ∷ xs) place one =
    let found = place_in xs place one in
    (found.0, found.1, inr found.2)

in_places : (xs : List Entry) (number place : ℕ) (payload : List ℕ) → IsIn (Used number place payload) xs
    → IsIn place (places_of xs)
in_places [] number place payload one = absurd one
in_places (Used other at content ∷ xs) number place payload (inl is) = inl (same_place is)
  where
    place_or : ℕ → Entry → ℕ
    place_or d (Used n p c) = p
    place_or d (Doubtful n f s) = d

    same_place : Used number place payload ≡ Used other at content → place ≡ at
    same_place same = ap (place_or 0) same
in_places (Used other at content ∷ xs) number place payload (inr one) = inr (in_places xs number place payload one)
in_places (Doubtful other first second ∷ xs) number place payload (inl is) = absurd (not_both is)
  where
    not_both : ¬ (Used number place payload ≡ Doubtful other first second)
    not_both same = cc
in_places (Doubtful other first second ∷ xs) number place payload (inr one) = in_places xs number place payload one

-- Entries with smaller numbers come after a place as their places do.
count_lower : (number place : ℕ) (xs : List Entry) → ((x : Entry) → IsIn x xs → entry_number x < number)
    → count_by (comes_behind number place) xs ≡ count_behind place (places_of xs)
count_lower number place [] lower = refl
count_lower number place (Used one at payload ∷ xs) lower =
    sum_by-cons (λ y. cond (comes_behind number place y) 1 0) (Used one at payload) xs
    ∙ ap (λ b. cond (b && nat_lt place at) 1 0 + count_by (comes_behind number place) xs)
    (lt-ltb one number (lower (Used one at payload) (inl refl)))
    ∙ ap (λ n. cond (nat_lt place at) 1 0 + n) (count_lower number place xs (λ x there. lower x (inr there)))
    ∙ sym (sum_by-cons (λ y. cond (nat_lt place y) 1 0) at (places_of xs))
count_lower number place (Doubtful one first second ∷ xs) lower =
    sum_by-cons (λ y. cond (comes_behind number place y) 1 0) (Doubtful one first second) xs
    ∙ zero-add (count_by (comes_behind number place) xs) ∙ count_lower number place xs (λ x there. lower x (inr there))

-- Those with greater numbers do not count.
count_upper : (number place : ℕ) (xs : List Entry) → ((x : Entry) → IsIn x xs → number ≤ entry_number x)
    → count_by (comes_behind number place) xs ≡ 0
count_upper number place xs upper = none_passes (comes_behind number place) xs each
  where
    each : (x : Entry) → IsIn x xs → comes_behind number place x ≡ false
    each (Used one at payload) there =
        ap (λ b. b && nat_lt place at) (le-ltb one number (upper (Used one at payload) there))
    each (Doubtful one first second) there = refl

ahead_by : (done : List Entry) (entry : Entry) (later : List Entry) → Rise 0 (done ++ entry ∷ later)
    → ahead (done ++ entry ∷ later) entry ≡ behind_entry entry (places_of done)
ahead_by done (Doubtful number first second) later rises = refl
ahead_by done (Used number place payload) later rises =
    sum_by-append (λ y. cond (comes_behind number place y) 1 0) done (Used number place payload ∷ later)
    ∙ ap (λ n. count_by (comes_behind number place) done + n)
    (count_upper number place (Used number place payload ∷ later) least)
    ∙ no_more (count_by (comes_behind number place) done)
    ∙ count_lower number place done (λ x there. rise_front 0 done (Used number place payload) later rises x there)
  where
    no_more : (n : ℕ) → n + 0 ≡ n
    no_more n = omega arith

    least : (x : Entry) → IsIn x (Used number place payload ∷ later) → number ≤ entry_number x
    least x (inl is) = let same = ap entry_number is in omega (arith, same)
    least x (inr there) =
        let over = rise_later 0 done (Used number place payload) later rises x there in omega (arith, over)

none_there : (place : ℕ) (xs : List ℕ) → (¬ IsIn place xs) → count_by (λ one. one == place) xs ≡ 0
none_there place xs not = none_passes (λ one. one == place) xs (λ x there. by_test x there (x == place) refl)
  where
    by_test : (x : ℕ) → IsIn x xs → (b : Bool) → (x == place) ≡ b → b ≡ false
    by_test x there false is = refl
    by_test x there true is = absurd (not (subst (λ y. IsIn y xs) (eqb-true x place is) there))

module _ {A : Type 0} (entries : List Entry) (total : ℕ) (taken : TakenPlaces A) (counts : List ℕ) (rest : List Entry)
    (left : ℕ) (s : AheadSo entries total taken counts rest left) (rises : Rise 0 entries)
    (placed : ArePlaced total entries) (small : total < 2 ^ 63) (entry : Entry) (later : List Entry)
    (parted : rest ≡ entry ∷ later) where
  whole : entries ≡ s.done ++ entry ∷ later
  whole = s.whole ∙ ap (λ l. s.done ++ l) parted

  rises_so : Rise 0 (s.done ++ entry ∷ later)
  rises_so = subst (Rise 0) whole rises

  free : (one : Entry) → one ≡ entry
      → All (λ place. (place < length taken.taken.items) × (count_by (λ p. p == place) (places_of s.done) ≡ 0))
      (places_of (one ∷ []))
  free (Doubtful number first second) is =
      All-nil (λ place. (place < length taken.taken.items) × (count_by (λ p. p == place) (places_of s.done) ≡ 0))
  free (Used number place payload) is =
      All-cons (λ p. (p < length taken.taken.items) × (count_by (λ q. q == p) (places_of s.done) ≡ 0)) place [] (
        subst (λ n. place < n) (sym s.total_is) (one_of (λ p. p < total) (places_of entries) place placed.within
            (in_places entries number place payload here)),
        none_there place (places_of s.done) not_there,
      )
      (All-nil (λ p. (p < length taken.taken.items) × (count_by (λ q. q == p) (places_of s.done) ≡ 0)))
    where
      here : IsIn (Used number place payload) entries
      here = subst (IsIn (Used number place payload)) (sym whole)
          (in_later (Used number place payload) s.done (entry ∷ later) (inl is))

      not_there : ¬ IsIn place (places_of s.done)
      not_there there =
          let found = place_in s.done place there in
          let other = Used found.0 place found.1 in
          let among = subst (IsIn other) (sym whole) (in_front other s.done (entry ∷ later) found.2) in
          let same = placed.differ found.0 number place found.1 payload (contains_of_in entries other among)
          (contains_of_in entries (Used number place payload) here) in
          let below = rise_front 0 s.done entry later rises_so other found.2 in
          let own = ap entry_number is in
          omega (arith, same, below, own)

  pub can_take : CanTake taken entry
  can_take = (
    places_of s.done,
    s.has,
    free entry refl,
    let few = s.few in
        let counted = ap length s.counts_are ∙ length-map s.done (ahead entries) in
        let places = few_places s.done in
        omega (arith, few, counted, places, small),
  )

  pub ahead_next : (new : TakenPlaces A) (count : ℕ) → Takes taken new entry count → (more : List ℕ)
      → more ≡ counts ++ count ∷ [] → (fewer : ℕ) → fewer < left → AheadSo entries total new more later fewer
  ahead_next new count took more pushed fewer less =
      let taken_now = took.1 (places_of s.done) s.has in
      let count_is : count ≡ ahead entries entry = taken_now.0 ∙ sym (ahead_by s.done entry later rises_so)
      ∙ sym (ap (λ l. ahead l entry) whole) in
      record {
        done = s.done ++ entry ∷ [];
        whole = whole ∙ sym (append_assoc s.done (entry ∷ []) later);
        counts_are =
            pushed ∙ ap (λ n. counts ++ n ∷ []) count_is ∙ ap (λ l. l ++ ahead entries entry ∷ []) s.counts_are
            ∙ sym (map-append (ahead entries) s.done (entry ∷ []));
        has = subst (HasTaken new) (sym (places-append s.done (entry ∷ []))) taken_now.1;
        total_is = took.0 ∙ s.total_is;
        few =
            let few = s.few in
            let long = ap length pushed ∙ length_push counts count in
            omega (arith, few, long, less);
      }

pub ahead_start : {A : Type 0} (entries : List Entry) (total : ℕ) (taken : TakenPlaces A) (counts : List ℕ)
    → HasTaken taken [] → length taken.taken.items ≡ total → counts ≡ []
    → AheadSo entries total taken counts entries total
ahead_start entries total taken counts has long none = record {
  done = [];
  whole = refl;
  counts_are = none;
  has = has;
  total_is = long;
  few = let length_is = ap length none in omega (arith, length_is);
}

-- The place of a used message was taken.
pub took_used : {A : Type 0} (old new : TakenPlaces A) (place : ℕ) (known : List ℕ) → HasTaken old known
    → place < length old.taken.items → count_by (λ one. one == place) known ≡ 0
    → new.taken.items ≡ slice_set old.taken.items place true
    → lists_in new.levels.items ≡ raised place (lists_in old.levels.items) → (count : ℕ)
    → count ≡ flags_behind place old.taken.items (lists_in old.levels.items) → (places : List ℕ) → HasTaken old places
    → (count ≡ count_behind place places) × HasTaken new (places ++ place ∷ [])
took_used old new place known has within free taken levels count counted places too = (
  counted ∙ all_behind old.taken.items (lists_in old.levels.items) places too place,
  subst (λ l. AreTaken new.taken.items l (places ++ place ∷ [])) (sym levels)
      (subst (λ l. AreTaken l (raised place (lists_in old.levels.items)) (places ++ place ∷ [])) (sym taken)
      (one_more_taken old.taken.items (lists_in old.levels.items) places too place within
      (sym (too.flags place) ∙ has.flags place ∙ free))),
)

pub few_ahead : {A : Type 0} (entries : List Entry) (total : ℕ) (taken : TakenPlaces A) (counts : List ℕ)
    (rest : List Entry) (left : ℕ) → AheadSo entries total taken counts rest left → length counts ≤ total
few_ahead entries total taken counts rest left s = let few = s.few in omega (arith, few)

-- All entries are counted.
pub all_ahead : {A : Type 0} (entries : List Entry) (total : ℕ) (taken : TakenPlaces A) (counts : List ℕ)
    (rest : List Entry) (left : ℕ) → AheadSo entries total taken counts rest left → rest ≡ []
    → counts ≡ map (ahead entries) entries
all_ahead entries total taken counts rest left s none =
    s.counts_are
    ∙ ap (map (ahead entries)) (sym (s.whole ∙ ap (λ l. s.done ++ l) none ∙ append-nil s.done))
