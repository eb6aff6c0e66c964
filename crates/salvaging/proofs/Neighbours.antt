-- Whether a number has a neighbour, and of how many messages the most that has one is ahead.
use Rattle.std.proofs.Common.{◌≡◌, ◌⊎◌, inl, inr, ℕ, suc, ◌+◌, ◌<◌, ◌≤◌, ◌++◌, ◌==◌, ◌||◌, Bool, true, false, Contains}
use Rattle.std.proofs.Common.{List, [], ◌∷◌, Option, Some, None, get_or, length, map, refl, sym, ap, subst, ◌∙◌, append_assoc}
use Rattle.std.proofs.Common.{arith}
use Rattle.std.specs.Prelude.{max}
use Rattle.std.specs.List.{list_any}
use Rattle.std.proofs.lemmas.Bool.{ne_eqb}
use Rattle.std.proofs.lemmas.List.{append-nil, length_push}
use Rattle.std.proofs.lemmas.List.Folds.{list_any-append}
use Rattle.salvaging.specs.Entries.{Entry, entry_number}
use Rattle.salvaging.specs.Far.{ahead, has_neighbour, is_beside}
use Rattle.salvaging.specs.steps.Farness.{IsNearest, follows, greater_of, is_followed, last_number}
use Rattle.salvaging.proofs.FarByBound.{all_of}
use Rattle.salvaging.proofs.Members.{IsIn, contains_of_in}
use Rattle.salvaging.proofs.OrderedEntries.{Rise, in_either, in_later, rise_front, rise_least}

apart_above : (number : ℕ) (x : Entry) → number + 1 < entry_number x → is_beside number x ≡ false
apart_above number x above =
    ap (λ b. b || number + 1 == entry_number x)
    (ne_eqb (entry_number x + 1) number (λ is. omega (arith, is, above)))
    ∙ ne_eqb (number + 1) (entry_number x) (λ is. omega (arith, is, above))

next_above : (number : ℕ) (x : Entry) → number < entry_number x → is_beside number x ≡ (number + 1 == entry_number x)
next_above number x above =
    ap (λ b. b || number + 1 == entry_number x)
    (ne_eqb (entry_number x + 1) number (λ is. omega (arith, is, above)))

apart_below : (number : ℕ) (x : Entry) → entry_number x + 1 < number → is_beside number x ≡ false
apart_below number x below =
    ap (λ b. b || number + 1 == entry_number x)
    (ne_eqb (entry_number x + 1) number (λ is. omega (arith, is, below)))
    ∙ ne_eqb (number + 1) (entry_number x) (λ is. omega (arith, is, below))

or_none : (b : Bool) → (b || false) ≡ b
or_none true = refl
or_none false = refl

next_below : (number : ℕ) (x : Entry) → entry_number x < number → is_beside number x ≡ (entry_number x + 1 == number)
next_below number x below =
    ap (λ b. entry_number x + 1 == number || b) (ne_eqb (number + 1) (entry_number x) (λ is. omega (arith, is, below)))
    ∙ or_none (entry_number x + 1 == number)

none_above : (number : ℕ) (xs : List Entry) → ((x : Entry) → IsIn x xs → number + 1 < entry_number x)
    → list_any (is_beside number) xs ≡ false
none_above number [] above = refl
none_above number (x ∷ xs) above =
    ap (λ b. b || list_any (is_beside number) xs) (apart_above number x (above x (inl refl)))
    ∙ none_above number xs (λ y there. above y (inr there))

any_later : (number : ℕ) (later : List Entry) → Rise (number + 1) later
    → list_any (is_beside number) later ≡ is_followed number later
any_later number [] rises = refl
any_later number (x ∷ xs) rises =
    let least = rises.0 in
    ap (λ b. b || list_any (is_beside number) xs) (next_above number x (omega (arith, least)))
    ∙ ap (λ b. number + 1 == entry_number x || b) (none_above number xs
    (λ y there. let over = rise_least (entry_number x + 1) xs rises.1 y there in omega (arith, least, over)))
    ∙ or_none (number + 1 == entry_number x)

any_before : (number from : ℕ) (before : Option ℕ) (done : List Entry) → Rise from done
    → ((x : Entry) → IsIn x done → entry_number x < number) → (x : Entry) (xs : List Entry) → done ≡ x ∷ xs
    → list_any (is_beside number) done ≡ follows (last_number before done) number
any_before number from before [] rises lower x xs is = absurd (none is)
  where
    none : ¬ ([] ≡ x ∷ xs)
    none same = cc
any_before number from before (y ∷ []) rises lower x xs is =
    or_none (is_beside number y) ∙ next_below number y (lower y (inl refl))
any_before number from before (y ∷ z ∷ done) rises lower x xs is =
    let above = rises.1.0 in
    let below = lower z (inr (inl refl)) in
    ap (λ b. b || list_any (is_beside number) (z ∷ done)) (apart_below number y (omega (arith, above, below)))
    ∙ any_before number (entry_number y + 1) (Some (entry_number y)) (z ∷ done) rises.1 (λ w there. lower w (inr there))
    z done refl

rise_upto : (from : ℕ) (front later : List Entry) → Rise from (front ++ later) → Rise from front
rise_upto from [] later rises = tt
rise_upto from (x ∷ front) later rises = (rises.0, rise_upto (entry_number x + 1) front later rises.1)

rise_behind : (from : ℕ) (front : List Entry) (entry : Entry) (later : List Entry)
    → Rise from (front ++ entry ∷ later) → Rise (entry_number entry + 1) later
rise_behind from [] entry later rises = rises.1
rise_behind from (x ∷ front) entry later rises = rise_behind (entry_number x + 1) front entry later rises.1

pub has_by : (done : List Entry) (entry : Entry) (later : List Entry) → Rise 0 (done ++ entry ∷ later)
    → has_neighbour (done ++ entry ∷ later) entry
    ≡ (follows (last_number None done) (entry_number entry) || is_followed (entry_number entry) later)
has_by done entry later rises =
    list_any-append (is_beside (entry_number entry)) done (entry ∷ later)
    ∙ ap (λ b. b || list_any (is_beside (entry_number entry)) (entry ∷ later)) (by_list done refl)
    ∙ ap (λ b. follows (last_number None done) (entry_number entry) || (b || list_any (is_beside (entry_number entry)) later)) not_itself
    ∙ ap (λ b. follows (last_number None done) (entry_number entry) || b) (any_later (entry_number entry) later (rise_behind 0 done entry later rises))
  where
    not_itself : is_beside (entry_number entry) entry ≡ false
    not_itself =
        ap (λ b. b || (entry_number entry) + 1 == (entry_number entry)) (ne_eqb ((entry_number entry) + 1) (entry_number entry) (λ is. omega (arith, is)))
        ∙ ne_eqb ((entry_number entry) + 1) (entry_number entry) (λ is. omega (arith, is))

    by_list : (xs : List Entry) → xs ≡ done → list_any (is_beside (entry_number entry)) xs ≡ follows (last_number None xs) (entry_number entry)
    by_list [] is = refl
    by_list (x ∷ xs) is =
        any_before (entry_number entry) 0 None (x ∷ xs) (subst (Rise 0) (sym is) (rise_upto 0 done (entry ∷ later) rises))
        (λ y there. rise_front 0 done entry later rises y (subst (IsIn y) is there)) x xs refl

last_push : (before : Option ℕ) (xs : List Entry) (x : Entry)
    → last_number before (xs ++ x ∷ []) ≡ Some (entry_number x)
last_push before [] x = refl
last_push before (y ∷ xs) x = last_push (Some (entry_number y)) xs x

-- Of the entries before these none that has a neighbour is ahead of more.
pub record NearSo (entries : List Entry) (rest : List Entry) (most : ℕ) (before : Option ℕ) (at : ℕ) : Type 0 where
  pub done : List Entry
  pub whole : entries ≡ done ++ rest
  pub at_is : at ≡ length done
  pub before_is : before ≡ last_number None done
  pub all : (x : Entry) → IsIn x done → has_neighbour entries x ≡ true → ahead entries x ≤ most
  pub one : (most ≡ 0)
      ⊎ ((x : Entry) × Contains entries x × (has_neighbour entries x ≡ true) × (ahead entries x ≡ most))

pub at_or : (f : Entry → ℕ) (front : List Entry) (x : Entry) (later : List Entry) (d : ℕ)
    → get_or (map f (front ++ x ∷ later)) (length front) d ≡ f x
at_or f [] x later d = refl
at_or f (y ∷ front) x later d = at_or f front x later d

pub least_most : (most count : ℕ) (b : Bool) → most ≤ greater_of most count b
least_most most count false = omega arith
least_most most count true = omega arith

pub own_most : (most count : ℕ) (b : Bool) → b ≡ true → count ≤ greater_of most count b
own_most most count true is = omega arith
own_most most count false is = cc

pub which : (most count : ℕ) (b : Bool) → (greater_of most count b ≡ most)
    ⊎ ((b ≡ true) × (greater_of most count b ≡ count))
which most count false = inl refl
which most count true = by_order (cases most count)
  where
    cases : (a b : ℕ) → (max a b ≡ a) ⊎ (max a b ≡ b)
    cases a b = grind arith

    by_order : (max most count ≡ most) ⊎ (max most count ≡ count)
        → (max most count ≡ most) ⊎ ((true ≡ true) × (max most count ≡ count))
    by_order (inl is) = inl is
    by_order (inr is) = inr (refl, is)

module _ (entries rest : List Entry) (most : ℕ) (before : Option ℕ) (at : ℕ) (s : NearSo entries rest most before at)
    (rises : Rise 0 entries) (entry : Entry) (later : List Entry) (parted : rest ≡ entry ∷ later) where
  whole : entries ≡ s.done ++ entry ∷ later
  whole = s.whole ∙ ap (λ l. s.done ++ l) parted

  pub near_next : (counts : List ℕ) → counts ≡ map (ahead entries) entries → (count d : ℕ) → count ≡ get_or counts at d
      → (has : Bool) → has ≡ (follows before (entry_number entry) || is_followed (entry_number entry) later)
      → (new : ℕ) → new ≡ greater_of most count has → (last : Option ℕ) → last ≡ Some (entry_number entry) → (next : ℕ)
      → next ≡ suc at → NearSo entries later new last next
  near_next counts are count d is has has_is new new_is last last_is next next_is =
      let count_is : count ≡ ahead entries entry =
      is ∙ ap (λ l. get_or l at d) are ∙ ap (λ k. get_or (map (ahead entries) entries) k d) s.at_is
      ∙ ap (λ l. get_or (map (ahead entries) l) (length s.done) d) whole ∙ at_or (ahead entries) s.done entry later d in
      let has_so : has ≡ has_neighbour entries entry =
      has_is ∙ ap (λ b. follows b (entry_number entry) || is_followed (entry_number entry) later) s.before_is
      ∙ sym (has_by s.done entry later (subst (Rise 0) whole rises)) ∙ sym (ap (λ l. has_neighbour l entry) whole) in
      let least = least_most most count has in
      record {
        done = s.done ++ entry ∷ [];
        whole = whole ∙ sym (append_assoc s.done (entry ∷ []) later);
        at_is = let here = s.at_is in let long = length_push s.done entry in omega (arith, here, long, next_is);
        before_is = last_is ∙ sym (last_push None s.done entry);
        all = λ x there is_near. by_place x is_near count_is has_so (in_either x s.done (entry ∷ []) there);
        one = by_which (which most count has) count_is has_so;
      }
    where
      by_place : (x : Entry) → has_neighbour entries x ≡ true → count ≡ ahead entries entry
          → has ≡ has_neighbour entries entry → IsIn x s.done ⊎ IsIn x (entry ∷ []) → ahead entries x ≤ new
      by_place x is_near count_is has_so (inl there) =
          let upto = s.all x there is_near in
          let least = least_most most count has in
          omega (arith, upto, least, new_is)
      by_place x is_near count_is has_so (inr (inl same)) =
          let own = own_most most count has (has_so ∙ sym (ap (has_neighbour entries) same) ∙ is_near) in
          let mine = ap (ahead entries) same in
          omega (arith, own, mine, count_is, new_is)
      by_place x is_near count_is has_so (inr (inr none)) = absurd none

      by_which : (greater_of most count has ≡ most) ⊎ ((has ≡ true) × (greater_of most count has ≡ count))
          → count ≡ ahead entries entry → has ≡ has_neighbour entries entry
          → (new ≡ 0) ⊎ ((x : Entry) × Contains entries x × (has_neighbour entries x ≡ true) × (ahead entries x ≡ new))
      by_which (inl same) count_is has_so =
          subst (λ n. (n ≡ 0) ⊎ ((x : Entry) × Contains entries x × (has_neighbour entries x ≡ true)
          × (ahead entries x ≡ n))) (sym (new_is ∙ same)) s.one
      by_which (inr (near, mine)) count_is has_so =
          inr (
            entry,
            contains_of_in entries entry (subst (IsIn entry) (sym whole)
                (in_later entry s.done (entry ∷ later) (inl refl))),
            sym has_so ∙ near,
            sym count_is ∙ sym (new_is ∙ mine),
          )

pub near_start : (entries : List Entry) → NearSo entries entries 0 None 0
near_start entries = record {
  done = [];
  whole = refl;
  at_is = refl;
  before_is = refl;
  all = λ x there is_near. absurd there;
  one = inl refl;
}

pub near_end : (entries rest : List Entry) (most : ℕ) (before : Option ℕ) (at : ℕ) → NearSo entries rest most before at
    → rest ≡ [] → IsNearest entries most
near_end entries rest most before at s none = record {
  all = all_of (λ x. has_neighbour entries x ≡ true → ahead entries x ≤ most) entries
      (λ x there. s.all x (subst (IsIn x) (s.whole ∙ ap (λ l. s.done ++ l) none ∙ append-nil s.done) there));
  one = s.one;
}
