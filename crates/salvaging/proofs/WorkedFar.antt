-- Worked examples of far numbers: messages by their numbers, in the order in which they came.
use Rattle.std.proofs.Common.{◌≡◌, ◌⊎◌, inl, inr, ℕ, ◌*◌, ◌<◌, ◌≤◌, ◌++◌, Bool, true, false, Contains, List, []}
use Rattle.std.proofs.Common.{◌∷◌, map, refl, sym, ap, subst, ◌∙◌, append_assoc, arith}
use Rattle.std.specs.Prelude.{nat_le}
use Rattle.std.proofs.lemmas.Bool.{cases_lt, leb-true}
use Rattle.std.proofs.lemmas.List.{append-nil}
use Rattle.salvaging.specs.Entries.{Entry, Used}
use Rattle.salvaging.specs.Far.{AreFar, ahead, believed, has_neighbour}
use Rattle.salvaging.specs.FarGaps.{reported_gaps}
use Rattle.salvaging.specs.Late.{late}
use Rattle.salvaging.specs.steps.Farness.{IsGreatestUpTo, IsNearest, Reaches, greater_of, is_above}
use Rattle.salvaging.proofs.BoundSteps.{none_yet, one_more}
use Rattle.salvaging.proofs.FarByBound.{all_of, far_by_bound, one_of}
use Rattle.salvaging.proofs.Members.{IsIn, contains_of_in}
use Rattle.salvaging.proofs.Neighbours.{least_most, own_most, which}

-- The greatest count up to a limit, by a walk over the counts.
abbrev greatest_from : ℕ → ℕ → List ℕ → ℕ
greatest_from limit most [] = most
greatest_from limit most (count ∷ counts) =
    greatest_from limit (greater_of most count (nat_le count limit)) counts

greatest_is : (limit : ℕ) (done counts : List ℕ) (most : ℕ) → IsGreatestUpTo done limit most
    → IsGreatestUpTo (done ++ counts) limit (greatest_from limit most counts)
greatest_is limit done [] most g = subst (λ l. IsGreatestUpTo l limit most) (sym (append-nil done)) g
greatest_is limit done (count ∷ counts) most g =
    let new = greater_of most count (nat_le count limit) in
    subst (λ l. IsGreatestUpTo l limit (greatest_from limit new counts)) (append_assoc done (count ∷ []) counts)
    (greatest_is limit (done ++ count ∷ []) counts new (one_more done limit most g count new refl))

-- The most that one of these which has a neighbour is ahead of, among all entries.
abbrev nearest_from : List Entry → List Entry → ℕ
nearest_from entries [] = 0
nearest_from entries (x ∷ xs) = greater_of (nearest_from entries xs) (ahead entries x) (has_neighbour entries x)

nearest_all : (entries xs : List Entry) (x : Entry) → IsIn x xs → has_neighbour entries x ≡ true
    → ahead entries x ≤ nearest_from entries xs
nearest_all entries [] x there has = absurd there
nearest_all entries (y ∷ xs) x (inl is) has =
    let own = own_most (nearest_from entries xs) (ahead entries y) (has_neighbour entries y)
    (sym (ap (has_neighbour entries) is) ∙ has) in
    let same = ap (ahead entries) is in
    omega (arith, own, same)
nearest_all entries (y ∷ xs) x (inr there) has =
    let upto = nearest_all entries xs x there has in
    let least = least_most (nearest_from entries xs) (ahead entries y) (has_neighbour entries y) in
    omega (arith, upto, least)

nearest_one : (entries xs : List Entry) → ((x : Entry) → IsIn x xs → IsIn x entries) → (nearest_from entries xs ≡ 0)
    ⊎ ((x : Entry) × Contains entries x × (has_neighbour entries x ≡ true) × (ahead entries x ≡ nearest_from entries xs))
nearest_one entries [] among = inl refl
nearest_one entries (y ∷ xs) among =
    by_which (nearest_one entries xs (λ x there. among x (inr there)))
    (which (nearest_from entries xs) (ahead entries y) (has_neighbour entries y))
  where
    by_which : (nearest_from entries xs ≡ 0) ⊎ ((x : Entry) × Contains entries x × (has_neighbour entries x ≡ true)
        × (ahead entries x ≡ nearest_from entries xs))
        → (nearest_from entries (y ∷ xs) ≡ nearest_from entries xs)
        ⊎ ((has_neighbour entries y ≡ true) × (nearest_from entries (y ∷ xs) ≡ ahead entries y))
        → (nearest_from entries (y ∷ xs) ≡ 0) ⊎ ((x : Entry) × Contains entries x × (has_neighbour entries x ≡ true)
        × (ahead entries x ≡ nearest_from entries (y ∷ xs)))
    by_which before (inl same) =
        subst (λ n. (n ≡ 0) ⊎ ((x : Entry) × Contains entries x × (has_neighbour entries x ≡ true)
        × (ahead entries x ≡ n))) (sym same) before
    by_which before (inr (has, mine)) =
        inr (y, contains_of_in entries y (among y (inl refl)), has, sym mine)

abbrev nearest : List Entry → ℕ
nearest entries = nearest_from entries entries

-- The far entries, where the bound is reached by these steps and no further.
row : (entries : List Entry) (steps : List ℕ) (bound : ℕ)
    → Reaches (map (ahead entries) entries) (nearest entries) steps bound → nat_le (nearest entries) bound ≡ true
    → nat_le (greatest_from (2 * bound) 0 (map (ahead entries) entries)) bound ≡ true
    → AreFar entries (map (is_above bound) (map (ahead entries) entries))
row entries steps bound reached least over = far_by_bound entries (nearest entries) bound near (record {
  steps = steps;
  reached = reached;
  least = leb-true (nearest entries) bound least;
  apart = all_of (λ count. (count ≤ bound) ⊎ (2 * bound < count)) (map (ahead entries) entries) (λ count there. by_order count there
      (cases_lt (2 * bound) count));
})
  where
    near : IsNearest entries (nearest entries)
    near = record {
      all = all_of (λ x. has_neighbour entries x ≡ true → ahead entries x ≤ nearest entries) entries
          (nearest_all entries entries);
      one = nearest_one entries entries (λ x there. there);
    }

    greatest : IsGreatestUpTo (map (ahead entries) entries) (2 * bound) (greatest_from (2 * bound) 0 (map (ahead entries) entries))
    greatest = greatest_is (2 * bound) [] (map (ahead entries) entries) 0 (none_yet (2 * bound))

    by_order : (count : ℕ) → IsIn count (map (ahead entries) entries) → (2 * bound < count) ⊎ (count ≤ 2 * bound)
        → (count ≤ bound) ⊎ (2 * bound < count)
    by_order count there (inl above) = inr above
    by_order count there (inr upto) =
        let most = one_of (λ n. n ≤ 2 * bound → n ≤ greatest_from (2 * bound) 0 (map (ahead entries) entries)) (map (ahead entries) entries) count greatest.all there
        upto in
        let within = leb-true (greatest_from (2 * bound) 0 (map (ahead entries) entries)) bound over in
        inl (omega (arith, most, within))

abbrev at : ℕ → ℕ → Entry
at number place = Used number place []

-- Where these entries are good and far as this says, these gaps are reported, and so many messages are late.
abbrev Leave : List Entry → List Bool → List ℕ → ℕ → Type 0
Leave entries flags gaps count =
    (reported_gaps 0 entries flags ≡ gaps) × (late entries (believed (map (λ entry. true) entries) flags) ≡ count)

-- 0 1 2 900 4 5 6: 900 is far.
one_far : AreFar (at 0 0 ∷ at 1 1 ∷ at 2 2 ∷ at 4 4 ∷ at 5 5 ∷ at 6 6 ∷ at 900 3 ∷ [])
    (false ∷ false ∷ false ∷ false ∷ false ∷ false ∷ true ∷ [])
one_far = row (at 0 0 ∷ at 1 1 ∷ at 2 2 ∷ at 4 4 ∷ at 5 5 ∷ at 6 6 ∷ at 900 3 ∷ []) [] 0 refl refl refl

one_far_left : Leave (at 0 0 ∷ at 1 1 ∷ at 2 2 ∷ at 4 4 ∷ at 5 5 ∷ at 6 6 ∷ at 900 3 ∷ [])
    (false ∷ false ∷ false ∷ false ∷ false ∷ false ∷ true ∷ []) (1 ∷ 0 ∷ []) 0
one_far_left = (refl, refl)

-- 0 1 2 3 4 5 900: none is far.
last_one : AreFar (at 0 0 ∷ at 1 1 ∷ at 2 2 ∷ at 3 3 ∷ at 4 4 ∷ at 5 5 ∷ at 900 6 ∷ [])
    (false ∷ false ∷ false ∷ false ∷ false ∷ false ∷ false ∷ [])
last_one = row (at 0 0 ∷ at 1 1 ∷ at 2 2 ∷ at 3 3 ∷ at 4 4 ∷ at 5 5 ∷ at 900 6 ∷ []) [] 0 refl refl refl

last_one_left : Leave (at 0 0 ∷ at 1 1 ∷ at 2 2 ∷ at 3 3 ∷ at 4 4 ∷ at 5 5 ∷ at 900 6 ∷ [])
    (false ∷ false ∷ false ∷ false ∷ false ∷ false ∷ false ∷ []) (894 ∷ []) 0
last_one_left = (refl, refl)

-- 0 1 900 3 800 5 6: 800 and 900 are far.
two_far : AreFar (at 0 0 ∷ at 1 1 ∷ at 3 3 ∷ at 5 5 ∷ at 6 6 ∷ at 800 4 ∷ at 900 2 ∷ [])
    (false ∷ false ∷ false ∷ false ∷ false ∷ true ∷ true ∷ [])
two_far = row (at 0 0 ∷ at 1 1 ∷ at 3 3 ∷ at 5 5 ∷ at 6 6 ∷ at 800 4 ∷ at 900 2 ∷ []) [] 0 refl refl refl

two_far_left : Leave (at 0 0 ∷ at 1 1 ∷ at 3 3 ∷ at 5 5 ∷ at 6 6 ∷ at 800 4 ∷ at 900 2 ∷ [])
    (false ∷ false ∷ false ∷ false ∷ false ∷ true ∷ true ∷ []) (1 ∷ 1 ∷ 0 ∷ 0 ∷ []) 0
two_far_left = (refl, refl)

-- 0 1 900 3 901 5 6: none is far, since each of the two has a neighbour.
two_beside : AreFar (at 0 0 ∷ at 1 1 ∷ at 3 3 ∷ at 5 5 ∷ at 6 6 ∷ at 900 2 ∷ at 901 4 ∷ [])
    (false ∷ false ∷ false ∷ false ∷ false ∷ false ∷ false ∷ [])
two_beside = row (at 0 0 ∷ at 1 1 ∷ at 3 3 ∷ at 5 5 ∷ at 6 6 ∷ at 900 2 ∷ at 901 4 ∷ []) [] 3 refl refl refl

two_beside_left : Leave (at 0 0 ∷ at 1 1 ∷ at 3 3 ∷ at 5 5 ∷ at 6 6 ∷ at 900 2 ∷ at 901 4 ∷ [])
    (false ∷ false ∷ false ∷ false ∷ false ∷ false ∷ false ∷ []) (1 ∷ 1 ∷ 893 ∷ []) 3
two_beside_left = (refl, refl)

-- 0 4 1 2 3 5 6: none is far.
early_beside : AreFar (at 0 0 ∷ at 1 2 ∷ at 2 3 ∷ at 3 4 ∷ at 4 1 ∷ at 5 5 ∷ at 6 6 ∷ [])
    (false ∷ false ∷ false ∷ false ∷ false ∷ false ∷ false ∷ [])
early_beside = row (at 0 0 ∷ at 1 2 ∷ at 2 3 ∷ at 3 4 ∷ at 4 1 ∷ at 5 5 ∷ at 6 6 ∷ []) [] 3 refl refl refl

early_beside_left : Leave (at 0 0 ∷ at 1 2 ∷ at 2 3 ∷ at 3 4 ∷ at 4 1 ∷ at 5 5 ∷ at 6 6 ∷ [])
    (false ∷ false ∷ false ∷ false ∷ false ∷ false ∷ false ∷ []) [] 3
early_beside_left = (refl, refl)

-- 0 1 6 2 3 4 8 9: 6 is far.
early_alone : AreFar (at 0 0 ∷ at 1 1 ∷ at 2 3 ∷ at 3 4 ∷ at 4 5 ∷ at 6 2 ∷ at 8 6 ∷ at 9 7 ∷ [])
    (false ∷ false ∷ false ∷ false ∷ false ∷ true ∷ false ∷ false ∷ [])
early_alone =
    row (at 0 0 ∷ at 1 1 ∷ at 2 3 ∷ at 3 4 ∷ at 4 5 ∷ at 6 2 ∷ at 8 6 ∷ at 9 7 ∷ []) [] 0 refl refl refl

early_alone_left : Leave (at 0 0 ∷ at 1 1 ∷ at 2 3 ∷ at 3 4 ∷ at 4 5 ∷ at 6 2 ∷ at 8 6 ∷ at 9 7 ∷ [])
    (false ∷ false ∷ false ∷ false ∷ false ∷ true ∷ false ∷ false ∷ []) (0 ∷ 3 ∷ []) 0
early_alone_left = (refl, refl)

-- 0 2 1 4 3 9 5 6 7: 9 is far, beyond the hart's own reordering.
reordered_far : AreFar (at 0 0 ∷ at 1 2 ∷ at 2 1 ∷ at 3 4 ∷ at 4 3 ∷ at 5 6 ∷ at 6 7 ∷ at 7 8 ∷ at 9 5 ∷ [])
    (false ∷ false ∷ false ∷ false ∷ false ∷ false ∷ false ∷ false ∷ true ∷ [])
reordered_far =
    row (at 0 0 ∷ at 1 2 ∷ at 2 1 ∷ at 3 4 ∷ at 4 3 ∷ at 5 6 ∷ at 6 7 ∷ at 7 8 ∷ at 9 5 ∷ []) [] 1 refl refl refl

reordered_far_left : Leave (at 0 0 ∷ at 1 2 ∷ at 2 1 ∷ at 3 4 ∷ at 4 3 ∷ at 5 6 ∷ at 6 7 ∷ at 7 8 ∷ at 9 5 ∷ [])
    (false ∷ false ∷ false ∷ false ∷ false ∷ false ∷ false ∷ false ∷ true ∷ []) (0 ∷ []) 2
reordered_far_left = (refl, refl)

-- 0 2 1 4 3 9 6 5: none is far, since 9 is ahead of no more than twice as many as others are.
reordered : AreFar (at 0 0 ∷ at 1 2 ∷ at 2 1 ∷ at 3 4 ∷ at 4 3 ∷ at 5 7 ∷ at 6 6 ∷ at 9 5 ∷ [])
    (false ∷ false ∷ false ∷ false ∷ false ∷ false ∷ false ∷ false ∷ [])
reordered =
    row (at 0 0 ∷ at 1 2 ∷ at 2 1 ∷ at 3 4 ∷ at 4 3 ∷ at 5 7 ∷ at 6 6 ∷ at 9 5 ∷ []) (2 ∷ []) 2 (
      contains_of_in (0 ∷ 0 ∷ 1 ∷ 0 ∷ 1 ∷ 0 ∷ 1 ∷ 2 ∷ []) 2 (inr (inr (inr (inr (inr (inr (inr (inl refl)))))))),
      leb-true 2 2 refl,
      refl,
    ) refl refl

reordered_left : Leave (at 0 0 ∷ at 1 2 ∷ at 2 1 ∷ at 3 4 ∷ at 4 3 ∷ at 5 7 ∷ at 6 6 ∷ at 9 5 ∷ [])
    (false ∷ false ∷ false ∷ false ∷ false ∷ false ∷ false ∷ false ∷ []) (2 ∷ []) 4
reordered_left = (refl, refl)

-- 0 1 2 60 4 5 100 101 60: 60 is far, and its second message is a copy.
far_twice : AreFar (at 0 0 ∷ at 1 1 ∷ at 2 2 ∷ at 4 4 ∷ at 5 5 ∷ at 60 3 ∷ at 100 6 ∷ at 101 7 ∷ [])
    (false ∷ false ∷ false ∷ false ∷ false ∷ true ∷ false ∷ false ∷ [])
far_twice =
    row (at 0 0 ∷ at 1 1 ∷ at 2 2 ∷ at 4 4 ∷ at 5 5 ∷ at 60 3 ∷ at 100 6 ∷ at 101 7 ∷ []) [] 0 refl refl refl

far_twice_left : Leave (at 0 0 ∷ at 1 1 ∷ at 2 2 ∷ at 4 4 ∷ at 5 5 ∷ at 60 3 ∷ at 100 6 ∷ at 101 7 ∷ [])
    (false ∷ false ∷ false ∷ false ∷ false ∷ true ∷ false ∷ false ∷ []) (1 ∷ 0 ∷ 94 ∷ []) 0
far_twice_left = (refl, refl)
