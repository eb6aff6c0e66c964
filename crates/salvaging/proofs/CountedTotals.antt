-- What is counted of all messages is the sum of what is counted of each hart's own.
use Rattle.std.proofs.Common.{◌≡◌, ◌≢◌, ◌⊎◌, inl, inr, ℕ, zero, suc, ◌+◌, ◌<◌, ◌≤◌, ◌&&◌, Bool, true, false, cond, List}
use Rattle.std.proofs.Common.{[], ◌∷◌, Some, length, slice_get, refl, sym, ap, subst, ◌∙◌, arith}
use Rattle.std.specs.Prelude.{count_by, if◌then◌else◌, sum_by}
use Rattle.std.proofs.lemmas.Bool.{cases_lt, eq-eqb, ne_eqb}
use Rattle.std.proofs.lemmas.List.Sums.{sum_by-cons}
use Rattle.message.specs.declared.message.Message.{Message}
use Rattle.salvaging.specs.Strangers.{has_number, is_stranger}
use Rattle.salvaging.specs.TreatedCounts.{is_own, own_of}
use Rattle.salvaging.specs.declared.treatment.Treated.{Treated}
use Rattle.salvaging.proofs.CountedRows.{count_cons}
use Rattle.salvaging.proofs.TreatedAll.{others_own}

-- The sum of a function over so many numbers, from this one on.
abbrev pub sum_from : (ℕ → ℕ) → ℕ → ℕ → ℕ
sum_from f start zero = 0
sum_from f start (suc n) = f start + sum_from f (suc start) n

sum_none : (f : ℕ → ℕ) (start n : ℕ) → ((h : ℕ) → f h ≡ 0) → sum_from f start n ≡ 0
sum_none f start zero none = refl
sum_none f start (suc n) none =
    let first = none start in
    let rest = sum_none f (suc start) n none in
    omega (arith, first, rest)

sum_same : (f g : ℕ → ℕ) (start n : ℕ) → ((h : ℕ) → start ≤ h → f h ≡ g h) → sum_from f start n ≡ sum_from g start n
sum_same f g start zero same = refl
sum_same f g start (suc n) same =
    let first = same start (omega arith) in
    let rest = sum_same f g (suc start) n (λ h least. same h (omega (arith, least))) in
    omega (arith, first, rest)

-- One more at one of the numbers.
module _ (f g : ℕ → ℕ) (k : ℕ) (here : g k ≡ suc (f k)) (others : (h : ℕ) → h ≢ k → g h ≡ f h) where
  pub sum_more : (start n : ℕ) → start ≤ k → k < start + n → sum_from g start n ≡ suc (sum_from f start n)
  sum_more start zero least most = absurd (omega (arith, least, most))
  sum_more start (suc n) least most =
      by_order (cases_lt start k) (λ below. sum_more (suc start) n (omega (arith, below)) (omega (arith, most)))
    where
      by_order : (start < k) ⊎ (k ≤ start)
          → (start < k → sum_from g (suc start) n ≡ suc (sum_from f (suc start) n))
          → sum_from g start (suc n) ≡ suc (sum_from f start (suc n))
      by_order (inl below) again =
          let first = others start (λ is. omega (arith, is, below)) in
          let rest = again below in
          omega (arith, first, rest)
      by_order (inr over) again =
          let is : k ≡ start = omega (arith, over, least) in
          let first = subst (λ n. g n ≡ suc (f n)) is here in
          let rest = sum_same g f (suc start) n (λ h above. others h (λ same. omega (arith, same, above, is))) in
          omega (arith, first, rest)

-- The sum over a list whose items have these values at their places.
pub sum_of : {X : Type 0} (v : X → ℕ) (f : ℕ → ℕ) (xs : List X) (start : ℕ)
    → ((k : ℕ) (x : X) → slice_get xs k ≡ Some x → f (start + k) ≡ v x) → sum_from f start (length xs) ≡ sum_by v xs
sum_of v f [] start same = refl
sum_of v f (x ∷ xs) start same =
    let none : start + 0 ≡ start = omega arith in
    let first = subst (λ n. f n ≡ v x) none (same 0 x refl) in
    let rest = sum_of v f xs (suc start) (λ k y at.
    let next : start + suc k ≡ suc start + k = omega arith in
    subst (λ n. f n ≡ v y) next (same (suc k) y at)) in
    let both = sum_by-cons v x xs in
    omega (arith, first, rest, both)

module _ (p : Treated → Bool) (harts : ℕ) where
  -- How many of a hart's own pass the test.
  abbrev own_count : List Message → List Treated → ℕ → ℕ
  own_count messages treated hart = count_by p (own_of hart messages treated)

  module _ (message : Message) (messages : List Message) (one : Treated) (treated : List Treated) where
    first_counted : (hart : ℕ) → own_count (message ∷ messages) (one ∷ treated) hart
        ≡ cond (is_own hart message && p one) (suc (own_count messages treated hart)) (own_count messages treated hart)
    first_counted hart = by_own (is_own hart message)
      where
        by_own : (b : Bool)
            → count_by p (if b then one ∷ own_of hart messages treated else own_of hart messages treated)
            ≡ cond (b && p one) (suc (own_count messages treated hart)) (own_count messages treated hart)
        by_own true = count_cons p one (own_of hart messages treated)
        by_own false = refl

    not_counted : p one ≡ false → (hart : ℕ)
        → own_count (message ∷ messages) (one ∷ treated) hart ≡ own_count messages treated hart
    not_counted fails hart =
        first_counted hart
        ∙ ap (λ b. cond (is_own hart message && b) (suc (own_count messages treated hart))
        (own_count messages treated hart)) fails
        ∙ by_own (is_own hart message)
      where
        by_own : (b : Bool) → cond (b && false) (suc (own_count messages treated hart)) (own_count messages treated hart)
            ≡ own_count messages treated hart
        by_own true = refl
        by_own false = refl

    counted_once : p one ≡ true → is_stranger harts message ≡ false
        → sum_from (own_count (message ∷ messages) (one ∷ treated)) 0 harts
        ≡ suc (sum_from (own_count messages treated) 0 harts)
    counted_once passes known =
        let own = others_own harts message known in
        let below = own.0 in
        sum_more (own_count messages treated) (own_count (message ∷ messages) (one ∷ treated)) message.hart
        (here own.1) other 0 harts (omega arith) (omega (arith, below))
      where
        counted_so : (hart : ℕ) (b : Bool) → is_own hart message ≡ b
            → own_count (message ∷ messages) (one ∷ treated) hart
            ≡ cond b (suc (own_count messages treated hart)) (own_count messages treated hart)
        counted_so hart b is =
            first_counted hart
            ∙ ap (λ own. cond (own && p one) (suc (own_count messages treated hart)) (own_count messages treated hart)) is
            ∙ by_test b
          where
            by_test : (b : Bool)
                → cond (b && p one) (suc (own_count messages treated hart)) (own_count messages treated hart)
                ≡ cond b (suc (own_count messages treated hart)) (own_count messages treated hart)
            by_test true =
                ap (λ t. cond t (suc (own_count messages treated hart)) (own_count messages treated hart)) passes
            by_test false = refl

        here : has_number message ≡ true → own_count (message ∷ messages) (one ∷ treated) message.hart
            ≡ suc (own_count messages treated message.hart)
        here has =
            counted_so message.hart true
            (ap (λ b. b && has_number message) (eq-eqb message.hart message.hart refl) ∙ has)

        other : (hart : ℕ) → hart ≢ message.hart → own_count (message ∷ messages) (one ∷ treated) hart
            ≡ own_count messages treated hart
        other hart apart =
            counted_so hart false
            (ap (λ b. b && has_number message) (ne_eqb message.hart hart (λ is. apart (sym is))))

  -- Where no stranger passes it, all that pass it are some hart's own.
  pub total : (messages : List Message) (treated : List Treated) → length treated ≡ length messages
      → ((at : ℕ) (message : Message) (one : Treated) → slice_get messages at ≡ Some message
      → slice_get treated at ≡ Some one → is_stranger harts message ≡ true → p one ≡ false)
      → count_by p treated ≡ sum_from (λ hart. count_by p (own_of hart messages treated)) 0 harts
  total [] [] long fails = sym (sum_none (own_count [] []) 0 harts (λ hart. refl))
  total [] (one ∷ treated) long fails = absurd (omega (arith, long))
  total (message ∷ messages) [] long fails = absurd (omega (arith, long))
  total (message ∷ messages) (one ∷ treated) long fails =
      by_test (p one) refl (total messages treated (omega (arith, long)) (λ at. fails (suc at)))
    where
      by_test : (b : Bool) → p one ≡ b → count_by p treated ≡ sum_from (own_count messages treated) 0 harts
          → count_by p (one ∷ treated) ≡ sum_from (own_count (message ∷ messages) (one ∷ treated)) 0 harts
      by_test true passes rest =
          count_cons p one treated ∙ ap (λ b. cond b (suc (count_by p treated)) (count_by p treated)) passes
          ∙ ap suc rest ∙ sym (counted_once message messages one treated passes
          (by_stranger (is_stranger harts message) refl))
        where
          by_stranger : (strange : Bool) → is_stranger harts message ≡ strange → is_stranger harts message ≡ false
          by_stranger false is = is
          by_stranger true is =
              let never : true ≡ false = sym passes ∙ fails 0 message one refl refl is in cc
      by_test false fails_it rest =
          count_cons p one treated ∙ ap (λ b. cond b (suc (count_by p treated)) (count_by p treated)) fails_it
          ∙ rest
          ∙ sum_same (own_count messages treated) (own_count (message ∷ messages) (one ∷ treated)) 0 harts
          (λ hart least. sym (not_counted message messages one treated fails_it hart))
