-- The far entries are those that are ahead of more than twice the bound.
use Rattle.std.proofs.Common.{◌≡◌, ◌⊎◌, inl, inr, ℕ, ◌*◌, ◌<◌, ◌≤◌, All, Bool, true, false, Contains, List, [], ◌∷◌}
use Rattle.std.proofs.Common.{◌+◌, ◌∙◌, map, refl, sym, ap, subst, arith, zero-add}
use Rattle.std.specs.Prelude.{cond, count_by}
use Rattle.std.proofs.lemmas.Bool.{lt-ltb, ltb-true, ltb-false}
use Rattle.std.proofs.lemmas.List.Elements.{All-contains, All-weaker}
use Rattle.std.proofs.lemmas.List.Sums.{sum_by-cons}
use Rattle.salvaging.specs.Entries.{Entry, Used, Doubtful, is_used}
use Rattle.salvaging.specs.Far.{AreFar, StandFar, ahead, has_neighbour}
use Rattle.salvaging.specs.steps.Farness.{IsBound, IsNearest, Reaches, is_above}
use Rattle.salvaging.proofs.Members.{IsIn, all_in, contains_of_in, in_of_contains}

-- What holds of each of these holds of all.
pub all_of : {X : Type 0} (P : X → Type 0) (xs : List X) → ((x : X) → IsIn x xs → P x) → All P xs
all_of P xs each = All-weaker (λ x. IsIn x xs) P each xs (all_in xs)

pub one_of : {X : Type 0} (P : X → Type 0) (xs : List X) (x : X) → All P xs → IsIn x xs → P x
one_of P xs x all there = All-contains P xs x all (contains_of_in xs x there)

-- None of these passes the test.
pub none_passes : {X : Type 0} (p : X → Bool) (xs : List X) → ((x : X) → IsIn x xs → p x ≡ false) → count_by p xs ≡ 0
none_passes p [] none = refl
none_passes p (x ∷ xs) none =
    sum_by-cons (λ y. cond (p y) 1 0) x xs ∙ ap (λ b. cond b 1 0 + count_by p xs) (none x (inl refl))
    ∙ zero-add (count_by p xs) ∙ none_passes p xs (λ y there. none y (inr there))

in_map : {X Y : Type 0} (f : X → Y) (xs : List X) (x : X) → IsIn x xs → IsIn (f x) (map f xs)
in_map f [] x one = absurd one
in_map f (y ∷ xs) x (inl is) = inl (ap f is)
in_map f (y ∷ xs) x (inr one) = inr (in_map f xs x one)

pub of_map : {X Y : Type 0} (f : X → Y) (xs : List X) (y : Y) → IsIn y (map f xs) → (x : X) × IsIn x xs × (y ≡ f x)
of_map f [] y one = absurd one
of_map f (x ∷ xs) y (inl is) = (x, inl refl, is)
of_map f (x ∷ xs) y (inr one) =
    let found = of_map f xs y one in
    (found.0, inr found.1, found.2)

map_twice : {X Y Z : Type 0} (f : Y → Z) (g : X → Y) (xs : List X) → map f (map g xs) ≡ map (λ x. f (g x)) xs
map_twice f g [] = refl
map_twice f g (x ∷ xs) = ap (λ l. f (g x) ∷ l) (map_twice f g xs)

-- What each step keeps holds at the last.
reached_all : (P : ℕ → Type 0) (counts : List ℕ)
    → ((count next : ℕ) → P count → Contains counts next → next ≤ 2 * count → P next) → (first : ℕ) (steps : List ℕ)
    (last : ℕ) → P first → Reaches counts first steps last → P last
reached_all P counts keeps first [] last holds reached = subst P (sym reached) holds
reached_all P counts keeps first (next ∷ steps) last holds reached =
    reached_all P counts keeps next steps last (keeps first next holds reached.0 reached.1) reached.2

pub no_way : {b : Bool} → b ≡ true → b ≡ false → ⊥
no_way is not = cc

module _ (entries : List Entry) (first bound : ℕ) (near : IsNearest entries first)
    (is : IsBound (map (ahead entries) entries) first bound) where
  abbrev among : Entry → Bool
  among entry = is_above bound (ahead entries entry)

  above : (entry : Entry) → among entry ≡ true → 2 * bound < ahead entries entry
  above entry far = ltb-true (2 * bound) (ahead entries entry) far

  far_used : (entry : Entry) → among entry ≡ true → is_used entry ≡ true
  far_used (Used number place payload) far = refl
  far_used (Doubtful number one other) far =
      let over = above (Doubtful number one other) far in
      absurd (omega (arith, over))

  far_alone : (entry : Entry) → IsIn entry entries → among entry ≡ true → has_neighbour entries entry ≡ false
  far_alone entry there far = by_test (has_neighbour entries entry) refl
    where
      by_test : (b : Bool) → has_neighbour entries entry ≡ b → b ≡ false
      by_test false has = refl
      by_test true has =
          let most = one_of (λ e. has_neighbour entries e ≡ true → ahead entries e ≤ first) entries entry near.all there has in
          let over = above entry far in
          let least = is.least in
          absurd (omega (arith, most, over, least))

  others_less : (entry other : Entry) → IsIn other entries → among entry ≡ true → among other ≡ false
      → 2 * ahead entries other < ahead entries entry
  others_less entry other there far not =
      let over = above entry far in
      let under = ltb-false (2 * bound) (ahead entries other) not in
      by_side over under (one_of (λ n. (n ≤ bound) ⊎ (2 * bound < n)) (map (ahead entries) entries) (ahead entries other)
      is.apart (in_map (ahead entries) entries other there))
    where
      by_side : 2 * bound < ahead entries entry → ahead entries other ≤ 2 * bound
          → (ahead entries other ≤ bound) ⊎ (2 * bound < ahead entries other)
          → 2 * ahead entries other < ahead entries entry
      by_side over under (inl low) = omega (arith, over, low)
      by_side over under (inr high) = absurd (omega (arith, under, high))

  stand : StandFar entries among
  stand = record {
    used = all_of (λ e. among e ≡ true → is_used e ≡ true) entries (λ e there. far_used e);
    by_itself = all_of (λ e. among e ≡ true → has_neighbour entries e ≡ false) entries far_alone;
    of_one = all_of (λ e. among e ≡ true → 1 ≤ ahead entries e) entries
        (λ e there far. let over = above e far in omega (arith, over));
    of_more = all_of (λ e. among e ≡ true → All (λ o. is_used o ≡ true → among o ≡ false
        → 2 * ahead entries o < ahead entries e) entries) entries
        (λ e there far. all_of (λ o. is_used o ≡ true → among o ≡ false → 2 * ahead entries o < ahead entries e) entries
        (λ o too used not. others_less e o too far not));
  }

  module _ (others : Entry → Bool) (o : StandFar entries others) where
    abbrev AllAbove : ℕ → Type 0
    AllAbove count = (entry : Entry) → IsIn entry entries → others entry ≡ true → 2 * count < ahead entries entry

    -- Each of a set is above what one outside of it is ahead of.
    outside : (one : Entry) → IsIn one entries → others one ≡ false → AllAbove (ahead entries one)
    outside (Used number place payload) there not entry too far =
        one_of (λ x. is_used x ≡ true → others x ≡ false → 2 * ahead entries x < ahead entries entry) entries
        (Used number place payload)
        (one_of (λ e. others e ≡ true → All (λ x. is_used x ≡ true → others x ≡ false
        → 2 * ahead entries x < ahead entries e) entries) entries entry o.of_more too far) there refl not
    outside (Doubtful number one other) there not entry too far =
        let some = one_of (λ e. others e ≡ true → 1 ≤ ahead entries e) entries entry o.of_one too far in
        omega (arith, some)

    at_first : AllAbove first
    at_first = by_one near.one
      where
        by_one : (first ≡ 0) ⊎ ((entry : Entry) × Contains entries entry × (has_neighbour entries entry ≡ true)
            × (ahead entries entry ≡ first)) → AllAbove first
        by_one (inl none) = λ entry too far.
            let some = one_of (λ e. others e ≡ true → 1 ≤ ahead entries e) entries entry o.of_one too far in
            omega (arith, some, none)
        by_one (inr (one, there, has, same)) =
            let inside = in_of_contains entries one there in
            subst AllAbove same (outside one inside (not_in (others one) refl inside))
          where
            not_in : (b : Bool) → others one ≡ b → IsIn one entries → b ≡ false
            not_in false is inside = refl
            not_in true is inside =
                absurd (no_way has
                (one_of (λ e. others e ≡ true → has_neighbour entries e ≡ false) entries one o.by_itself inside is))

    more : (count next : ℕ) → AllAbove count → Contains (map (ahead entries) entries) next → next ≤ 2 * count
        → AllAbove next
    more count next all there upto =
        let found = of_map (ahead entries) entries next (in_of_contains (map (ahead entries) entries) next there) in
        subst AllAbove (sym found.2)
        (outside found.0 found.1 (not_in found.0 found.1 found.2 (others found.0) refl))
      where
        not_in : (one : Entry) → IsIn one entries → next ≡ ahead entries one → (b : Bool) → others one ≡ b → b ≡ false
        not_in one inside same false is = refl
        not_in one inside same true is =
            let over = all one inside is in
            absurd (omega (arith, over, same, upto))

    all_among : All (λ e. others e ≡ true → among e ≡ true) entries
    all_among = all_of (λ e. others e ≡ true → among e ≡ true) entries
        (λ e there far. lt-ltb (2 * bound) (ahead entries e) (reached_all AllAbove (map (ahead entries) entries) more first is.steps bound at_first is.reached e there far))

  pub far_by_bound : AreFar entries (map (is_above bound) (map (ahead entries) entries))
  far_by_bound = record {
    among = among;
    are_among = map_twice (is_above bound) (ahead entries) entries;
    stand_far = stand;
    greatest = all_among;
  }
