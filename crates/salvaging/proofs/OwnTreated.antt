-- What is done with a hart's own messages, among what is done with all.
use Rattle.std.proofs.Common.{◌≡◌, ℕ, zero, suc, Bool, true, false, cond, List, [], ◌∷◌, Some, length}
use Rattle.std.proofs.Common.{slice_get, take, refl, sym, ap, subst, ◌∙◌, arith}
use Rattle.std.specs.Prelude.{◌&&◌, ◌==◌, if◌then◌else◌}
use Rattle.std.specs.List.{filter}
use Rattle.std.proofs.lemmas.Option.{same_Some}
use Rattle.message.specs.OfHart.{of_hart}
use Rattle.message.specs.declared.message.Message.{Message}
use Rattle.salvaging.specs.Strangers.{has_number, own_messages}
use Rattle.salvaging.specs.TreatedCounts.{is_own, own_of}

pub own_cons : (hart : ℕ) (message : Message) (messages : List Message) → own_messages hart (message ∷ messages)
    ≡ cond (is_own hart message) (message ∷ own_messages hart messages) (own_messages hart messages)
own_cons hart message messages = by_hart (message.hart == hart)
  where
    by_hart : (b : Bool) → filter has_number (cond b (message ∷ of_hart hart messages) (of_hart hart messages))
        ≡ cond (b && has_number message) (message ∷ own_messages hart messages) (own_messages hart messages)
    by_hart true = refl
    by_hart false = refl

-- A message that is a hart's own, and what is done with it, stand at one place among all.
pub record StandsAmong {X : Type 0} (hart : ℕ) (messages : List Message) (all : List X) (place : ℕ)
    (message : Message) (one : X) : Type 0 where
  pub at : ℕ
  pub here : slice_get messages at ≡ Some message
  pub done : slice_get all at ≡ Some one
  pub own : is_own hart message ≡ true
  pub before : length (own_messages hart (take at messages)) ≡ place

pub length-own : {X : Type 0} (hart : ℕ) (messages : List Message) (xs : List X) → length xs ≡ length messages
    → length (own_of hart messages xs) ≡ length (own_messages hart messages)
length-own hart [] xs same = refl
length-own hart (message ∷ messages) [] same = absurd (omega (arith, same))
length-own {X} hart (message ∷ messages) (x ∷ xs) same =
    by_own (is_own hart message) (length-own hart messages xs (omega (arith, same)))
    ∙ sym (ap length (own_cons hart message messages))
  where
    by_own : (b : Bool) → length (own_of hart messages xs) ≡ length (own_messages hart messages)
        → length (if b then x ∷ own_of hart messages xs else own_of hart messages xs)
        ≡ length (cond b (message ∷ own_messages hart messages) (own_messages hart messages))
    by_own true later = ap suc later
    by_own false later = later

pub stands_among : {X : Type 0} (hart : ℕ) (messages : List Message) (xs : List X) (place : ℕ) (message : Message) (x : X)
    → slice_get (own_messages hart messages) place ≡ Some message → slice_get (own_of hart messages xs) place ≡ Some x
    → StandsAmong hart messages xs place message x
stands_among hart [] xs place message x here done = cc
stands_among hart (first ∷ messages) [] place message x here done = cc
stands_among {X} hart (first ∷ messages) (one ∷ xs) place message x here done =
    by_own (is_own hart first) refl (λ k. stands_among hart messages xs k message x)
    (subst (λ l. slice_get l place ≡ Some message) (own_cons hart first messages) here) done
  where
    Again : Type 0
    Again =
        (k : ℕ) → slice_get (own_messages hart messages) k ≡ Some message → slice_get (own_of hart messages xs) k ≡ Some x
        → StandsAmong hart messages xs k message x

    later : (own : Bool) → is_own hart first ≡ own → (k : ℕ) → StandsAmong hart messages xs k message x
        → StandsAmong hart (first ∷ messages) (one ∷ xs) (cond own (suc k) k) message x
    later own is k found = record {
      at = suc found.at;
      here = found.here;
      done = found.done;
      own = found.own;
      before = ap length (own_cons hart first (take found.at messages))
          ∙ ap (λ b. length (cond b (first ∷ own_messages hart (take found.at messages))
          (own_messages hart (take found.at messages)))) is
          ∙ by_test own found.before;
    }
      where
        by_test : (b : Bool) → length (own_messages hart (take found.at messages)) ≡ k
            → length (cond b (first ∷ own_messages hart (take found.at messages))
            (own_messages hart (take found.at messages))) ≡ cond b (suc k) k
        by_test true before = ap suc before
        by_test false before = before

    by_place : (place : ℕ) → is_own hart first ≡ true → Again
        → slice_get (first ∷ own_messages hart messages) place ≡ Some message
        → slice_get (one ∷ own_of hart messages xs) place ≡ Some x
        → StandsAmong hart (first ∷ messages) (one ∷ xs) place message x
    by_place zero is again at_message at_one = record {
      at = 0;
      here = at_message;
      done = at_one;
      own = subst (λ m. is_own hart m ≡ true) (same_Some first message at_message) is;
      before = refl;
    }
    by_place (suc before) is again at_message at_one = later true is before (again before at_message at_one)

    by_own : (own : Bool) → is_own hart first ≡ own → Again
        → slice_get (cond own (first ∷ own_messages hart messages) (own_messages hart messages)) place ≡ Some message
        → slice_get (if own then one ∷ own_of hart messages xs else own_of hart messages xs) place ≡ Some x
        → StandsAmong hart (first ∷ messages) (one ∷ xs) place message x
    by_own true is again at_message at_one = by_place place is again at_message at_one
    by_own false is again at_message at_one = later false is place (again place at_message at_one)

-- A hart's own message, and what stands at its place, are among what is the hart's own.
pub own_at : {X : Type 0} (hart : ℕ) (messages : List Message) (xs : List X) (at : ℕ) (message : Message) (x : X)
    → slice_get messages at ≡ Some message → slice_get xs at ≡ Some x → is_own hart message ≡ true
    → (slice_get (own_messages hart messages) (length (own_messages hart (take at messages))) ≡ Some message)
    × (slice_get (own_of hart messages xs) (length (own_messages hart (take at messages))) ≡ Some x)
own_at hart [] xs at message x here done own = cc
own_at hart (first ∷ messages) [] at message x here done own = cc
own_at {X} hart (first ∷ messages) (one ∷ xs) zero message x here done own =
    let is : is_own hart first ≡ true = ap (is_own hart) (same_Some first message here) ∙ own in (
      ap (λ l. slice_get l 0) (own_cons hart first messages)
          ∙ ap (λ b. slice_get (cond b (first ∷ own_messages hart messages) (own_messages hart messages)) 0) is ∙ here,
      ap (λ (b : Bool). slice_get (if b then one ∷ own_of hart messages xs else own_of hart messages xs) 0) is ∙ done,
    )
own_at {X} hart (first ∷ messages) (one ∷ xs) (suc at) message x here done own =
    subst (λ n. (slice_get (own_messages hart (first ∷ messages)) n ≡ Some message)
    × (slice_get (own_of hart (first ∷ messages) (one ∷ xs)) n ≡ Some x))
    (sym (ap length (own_cons hart first (take at messages))))
    (subst (λ l. (slice_get l (length (cond (is_own hart first) (first ∷ own_messages hart (take at messages))
    (own_messages hart (take at messages)))) ≡ Some message)
    × (slice_get (own_of hart (first ∷ messages) (one ∷ xs)) (length (cond (is_own hart first)
    (first ∷ own_messages hart (take at messages)) (own_messages hart (take at messages)))) ≡ Some x))
    (sym (own_cons hart first messages))
    (by_own (is_own hart first) (own_at hart messages xs at message x here done own)))
  where
    by_own : (b : Bool)
        → (slice_get (own_messages hart messages) (length (own_messages hart (take at messages))) ≡ Some message)
        × (slice_get (own_of hart messages xs) (length (own_messages hart (take at messages))) ≡ Some x)
        → (slice_get (cond b (first ∷ own_messages hart messages) (own_messages hart messages))
        (length (cond b (first ∷ own_messages hart (take at messages)) (own_messages hart (take at messages))))
        ≡ Some message)
        × (slice_get (if b then one ∷ own_of hart messages xs else own_of hart messages xs)
        (length (cond b (first ∷ own_messages hart (take at messages)) (own_messages hart (take at messages))))
        ≡ Some x)
    by_own true both = both
    by_own false both = both
