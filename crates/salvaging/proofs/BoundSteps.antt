-- The greatest count up to a limit, and the bound that is reached by such.
use Rattle.std.proofs.Common.{◌≡◌, ◌⊎◌, inl, inr, ℕ, ◌*◌, ◌^◌, ◌<◌, ◌≤◌, ◌++◌, All, Bool, true, false, Contains, List, []}
use Rattle.std.proofs.Common.{◌∷◌, ap, refl, subst, sym, ◌∙◌, arith}
use Rattle.std.specs.Prelude.{max, nat_le}
use Rattle.std.proofs.lemmas.Bool.{cases_lt, leb-true, leb-false}
use Rattle.std.proofs.lemmas.List.Elements.{All-contains, All-nil, All-push, Contains-append_left, Contains-push}
use Rattle.salvaging.specs.steps.Farness.{IsBound, IsGreatestUpTo, Reaches, greater_of}
use Rattle.salvaging.proofs.FarByBound.{all_of, one_of}
use Rattle.salvaging.proofs.Members.{IsIn}

pub none_yet : (limit : ℕ) → IsGreatestUpTo [] limit 0
none_yet limit = record {
  within = omega arith;
  all = All-nil (λ count. count ≤ limit → count ≤ 0);
  one = inl refl;
}

pub one_more : (counts : List ℕ) (limit most : ℕ) → IsGreatestUpTo counts limit most → (count new : ℕ)
    → new ≡ greater_of most count (nat_le count limit) → IsGreatestUpTo (counts ++ count ∷ []) limit new
one_more counts limit most g count new is = by_test (nat_le count limit) refl
  where
    by_test : (b : Bool) → nat_le count limit ≡ b → IsGreatestUpTo (counts ++ count ∷ []) limit new
    by_test false over =
        let past = leb-false count limit over in
        let same : new ≡ most = is ∙ (ap (greater_of most count) over) in
        subst (IsGreatestUpTo (counts ++ count ∷ []) limit) (sym same) (record {
          within = g.within;
          all = All-push (λ n. n ≤ limit → n ≤ most) counts count g.all (λ upto. absurd (omega (arith, past, upto)));
          one = by_one g.one;
        })
      where
        by_one : (most ≡ 0) ⊎ Contains counts most → (most ≡ 0) ⊎ Contains (counts ++ count ∷ []) most
        by_one (inl none) = inl none
        by_one (inr there) = inr (Contains-append_left counts (count ∷ []) most there)
    by_test true under =
        let upto = leb-true count limit under in
        let same : new ≡ max most count = is ∙ (ap (greater_of most count) under) in
        by_order upto same (cases_lt most count)
      where
        by_order : count ≤ limit → new ≡ max most count → (most < count) ⊎ (count ≤ most)
            → IsGreatestUpTo (counts ++ count ∷ []) limit new
        by_order upto same (inl above) =
            let own : new ≡ count = omega (arith, same, above) in
            subst (IsGreatestUpTo (counts ++ count ∷ []) limit) (sym own) (record {
              within = upto;
              all = All-push (λ n. n ≤ limit → n ≤ count) counts count
                  (all_of (λ n. n ≤ limit → n ≤ count) counts (λ n there fits.
                  let least = one_of (λ m. m ≤ limit → m ≤ most) counts n g.all there fits in omega (arith, least, above)))
                  (λ fits. omega arith);
              one = inr (Contains-push counts count);
            })
        by_order upto same (inr below) =
            let kept : new ≡ most = omega (arith, same, below) in
            subst (IsGreatestUpTo (counts ++ count ∷ []) limit) (sym kept) (record {
              within = g.within;
              all = All-push (λ n. n ≤ limit → n ≤ most) counts count g.all (λ fits. below);
              one = by_one g.one;
            })
          where
            by_one : (most ≡ 0) ⊎ Contains counts most → (most ≡ 0) ⊎ Contains (counts ++ count ∷ []) most
            by_one (inl none) = inl none
            by_one (inr there) = inr (Contains-append_left counts (count ∷ []) most there)

pub greatest_fits : (counts : List ℕ) (limit most : ℕ) → IsGreatestUpTo counts limit most
    → All (λ count. count < 2 ^ 63) counts → most < 2 ^ 63
greatest_fits counts limit most g few = by_one g.one
  where
    by_one : (most ≡ 0) ⊎ Contains counts most → most < 2 ^ 63
    by_one (inl none) = omega (arith, none)
    by_one (inr there) = All-contains (λ count. count < 2 ^ 63) counts most few there

step_more : (counts : List ℕ) (first : ℕ) (steps : List ℕ) (last next : ℕ) → Reaches counts first steps last
    → Contains counts next → next ≤ 2 * last → Reaches counts first (steps ++ next ∷ []) next
step_more counts first [] last next reached there upto = (there, subst (λ n. next ≤ 2 * n) reached upto, refl)
step_more counts first (one ∷ steps) last next reached there upto =
    (reached.0, reached.1, step_more counts one steps last next reached.2 there upto)

-- The bound so far, and the greatest count up to twice as much.
pub record BoundSo (counts : List ℕ) (first bound next : ℕ) : Type 0 where
  pub steps : List ℕ
  pub reached : Reaches counts first steps bound
  pub least : first ≤ bound
  pub fits : bound < 2 ^ 63
  pub greatest : IsGreatestUpTo counts (2 * bound) next

pub bound_start : (counts : List ℕ) (first next : ℕ) → first < 2 ^ 63 → IsGreatestUpTo counts (2 * first) next
    → BoundSo counts first first next
bound_start counts first next fits greatest = record {
  steps = [];
  reached = refl;
  least = omega arith;
  fits = fits;
  greatest = greatest;
}

pub bound_next : (counts : List ℕ) (first bound next after : ℕ) → BoundSo counts first bound next
    → All (λ count. count < 2 ^ 63) counts → bound < next → IsGreatestUpTo counts (2 * next) after
    → BoundSo counts first next after
bound_next counts first bound next after s few above greatest = record {
  steps = s.steps ++ next ∷ [];
  reached = step_more counts first s.steps bound next s.reached (there s.greatest.one) s.greatest.within;
  least = let least = s.least in omega (arith, least, above);
  fits = greatest_fits counts (2 * bound) next s.greatest few;
  greatest = greatest;
}
  where
    there : (next ≡ 0) ⊎ Contains counts next → Contains counts next
    there (inl none) = absurd (omega (arith, none, above))
    there (inr is) = is

pub bound_end : (counts : List ℕ) (first bound next : ℕ) → BoundSo counts first bound next → next ≤ bound
    → IsBound counts first bound
bound_end counts first bound next s over = record {
  steps = s.steps;
  reached = s.reached;
  least = s.least;
  apart = all_of (λ count. (count ≤ bound) ⊎ (2 * bound < count)) counts (λ count there. by_order count there
      (cases_lt (2 * bound) count));
}
  where
    by_order : (count : ℕ) → IsIn count counts → (2 * bound < count) ⊎ (count ≤ 2 * bound)
        → (count ≤ bound) ⊎ (2 * bound < count)
    by_order count there (inl above) = inr above
    by_order count there (inr upto) =
        let most = one_of (λ n. n ≤ 2 * bound → n ≤ next) counts count s.greatest.all there upto in
        inl (omega (arith, most, over))
