-- What is known of logs, by their places.
use Rattle.std.proofs.Common.{◌≡◌, ◌+◌, ◌++◌, ℕ, List, [], ◌∷◌, Option, Some, None, Result, Ok, Err, All, map}
use Rattle.std.proofs.Common.{◌∙◌, ap, append_assoc, false, if◌then◌else◌, refl, slice_get, set, length, sym, subst}
use Rattle.std.proofs.Common.{arith, suc, true≢false, zero}
use Rattle.std.proofs.lemmas.List.{length_push, map-append}
use Rattle.std.proofs.lemmas.List.Elements.{All-head, All-nil, All-push, All-tail}
use Rattle.std.specs.Result.{is_err, is_ok}
use Rattle.log_streams.specs.declared.stop.Stop.{Stop}
use Rattle.log_streams.specs.steps.Places.{AreAllowedFrom, IsTakenUpTo, was_made}

next : (n i : ℕ) → n + suc i ≡ (n + 1) + i
next n i = omega arith

none-more : (n : ℕ) → n ≡ n + 0
none-more n = omega arith

pub first-place : (i : ℕ) → i ≡ 0 + i
first-place i = omega arith

some-same : {A : Type 0} (x y : A) → Some x ≡ Some y → x ≡ y
some-same x y same = cc same

-- In a list of no log nothing is known of each.
pub none-of-none : {X : Type 0} (all : List (Option (Result X Stop))) → all ≡ []
    → (length all ≡ 0) × All (λ one. one ≡ None) all
none-of-none all is = (ap length is, subst (All (λ one. one ≡ None)) (sym is) (All-nil (λ one. one ≡ None)))

-- Nor is it in one with one log more.
pub none-of-more : {X : Type 0} (all more : List (Option (Result X Stop))) (count : ℕ) → length all ≡ count
    → All (λ one. one ≡ None) all → more ≡ all ++ None ∷ [] → (length more ≡ count + 1) × All (λ one. one ≡ None) more
none-of-more all more count counted none is = (
  ap length is ∙ length_push all None ∙ ap (λ n. n + 1) counted,
  subst (All (λ one. one ≡ None)) (sym is) (All-push (λ one. one ≡ None) all None none refl),
)

-- No log was taken yet.
pub taken-none : {X : Type 0} (all rest : List (Option (Result X Stop))) (made : List X) → rest ≡ all → made ≡ []
    → IsTakenUpTo all rest made
taken-none all rest made same none = subst (λ made. all ≡ map was_made made ++ rest) (sym none) (sym same)

-- And then one more, where it was added to the list.
pub taken-more : {X E : Type 0} (all rest left : List (Option (Result X Stop))) (made more : List X)
    (one : Option (Result X Stop)) (thing : X) (pushed : Result (Unit {0}) E) → IsTakenUpTo all rest made
    → rest ≡ one ∷ left → one ≡ Some (Ok thing) → more ≡ (if is_ok pushed then made ++ thing ∷ [] else made)
    → is_err pushed ≡ false → IsTakenUpTo all left more
taken-more all rest left made more one thing (Ok done) whole next is added fine =
    whole
    ∙ ap (λ rest. map was_made made ++ rest) (next ∙ ap (λ one. one ∷ left) is)
    ∙ sym (append_assoc (map was_made made) (was_made thing ∷ []) left)
    ∙ ap (λ front. front ++ left) (sym (map-append was_made made (thing ∷ [])))
    ∙ ap (λ made. map was_made made ++ left) (sym added)
taken-more all rest left made more one thing (Err why) whole next is added fine = absurd (true≢false fine)

module _ {X : Type 0} (Allows : ℕ → Result X Stop → Type 0) where
  -- Where nothing is known, all is allowed.
  pub nothing-known : (n : ℕ) (all : List (Option (Result X Stop))) → All (λ one. one ≡ None) all
      → AreAllowedFrom Allows n all
  nothing-known n [] none = tt
  nothing-known n (None ∷ rest) none = nothing-known (n + 1) rest (All-tail (λ one. one ≡ None) None rest none)
  nothing-known n (Some one ∷ rest) none = cc (All-head (λ one. one ≡ None) (Some one) rest none)

  -- What is put at a place is allowed there.
  put-at : (n : ℕ) (all : List (Option (Result X Stop))) (i : ℕ) (made : Result X Stop)
      → AreAllowedFrom Allows n all → Allows (n + i) made → AreAllowedFrom Allows n (set all i (Some made))
  put-at n [] i made known one = tt
  put-at n (None ∷ rest) zero made known one = (subst (λ at. Allows at made) (sym (none-more n)) one, known)
  put-at n (Some before ∷ rest) zero made known one =
      (subst (λ at. Allows at made) (sym (none-more n)) one, known.1)
  put-at n (None ∷ rest) (suc i) made known one =
      put-at (n + 1) rest i made known (subst (λ at. Allows at made) (next n i) one)
  put-at n (Some before ∷ rest) (suc i) made known one =
      (known.0, put-at (n + 1) rest i made known.1 (subst (λ at. Allows at made) (next n i) one))

  -- The same in all logs.
  pub put-in : (all : List (Option (Result X Stop))) (i : ℕ) (made : Result X Stop)
      → AreAllowedFrom Allows 0 all → Allows i made → AreAllowedFrom Allows 0 (set all i (Some made))
  put-in all i made known one = put-at 0 all i made known (subst (λ at. Allows at made) (first-place i) one)

  -- What was made of a log is allowed at its place.
  pub made-at : (n : ℕ) (made : List X) (rest : List (Option (Result X Stop)))
      → AreAllowedFrom Allows n (map was_made made ++ rest) → (i : ℕ) (one : X) → slice_get made i ≡ Some one
      → Allows (n + i) (Ok one)
  made-at n [] rest known i one at = cc at
  made-at n (x ∷ made) rest known zero one at =
      subst (λ at. Allows at (Ok one)) (none-more n) (subst (λ x. Allows n (Ok x)) (some-same x one at) known.0)
  made-at n (x ∷ made) rest known (suc i) one at =
      subst (λ at. Allows at (Ok one)) (sym (next n i)) (made-at (n + 1) made rest known.1 i one at)

  -- The reason of the first log of which nothing was made is allowed at its place.
  pub end-at : (n : ℕ) (made : List X) (why : Stop) (rest : List (Option (Result X Stop)))
      → AreAllowedFrom Allows n (map was_made made ++ Some (Err why) ∷ rest) → Allows (n + length made) (Err why)
  end-at n [] why rest known = subst (λ at. Allows at (Err why)) (none-more n) known.0
  end-at n (x ∷ made) why rest known =
      subst (λ at. Allows at (Err why)) (sym (next n (length made))) (end-at (n + 1) made why rest known.1)
