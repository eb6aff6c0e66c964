-- One more message of RECEIVED: the true ones, and the fates.
use Rattle.std.proofs.Common.{◌≡◌, inl, inr, ◌+◌, Bool, true, false, cond, List, [], ◌∷◌, ◌++◌, refl, sym}
use Rattle.std.proofs.Common.{ap, ◌∙◌}
use Rattle.std.specs.Prelude.{◌&&◌, ◌||◌}
use Rattle.std.specs.List.{count_by, list_any}
use Rattle.std.proofs.lemmas.Bool.{or_cases, or_left, or_right}
use Rattle.std.proofs.lemmas.List.{append_assoc, append-nil}
use Rattle.std.proofs.lemmas.List.Elements.{filter-append}
use Rattle.std.proofs.lemmas.List.Folds.{list_any-append}
use Rattle.std.proofs.lemmas.List.Sums.{sum_by_push}
use Rattle.message.specs.declared.message.Message.{Message}
use Rattle.auditing.specs.Fates.{is_true, true_ones}
use Rattle.auditing.specs.Judged.{Judged, judged, judged_behind, judged_one}

pub or_false : (b : Bool) → (b || false) ≡ b
or_false true = refl
or_false false = refl

-- What all that pass one test pass too, some pass where some pass the one.
pub any_weaker : {X : Type 0} (p q : X → Bool) → ((x : X) → p x ≡ true → q x ≡ true) → (xs : List X)
    → list_any p xs ≡ true → list_any q xs ≡ true
any_weaker p q each [] is = is
any_weaker p q each (x ∷ xs) is =
    elim (or_cases (p x) (list_any p xs) is) [
      | inl here ↦ or_left (q x) (list_any q xs) (each x here)
      | inr there ↦ or_right (q x) (list_any q xs) (any_weaker p q each xs there)
    ]

-- A message that is not true adds none to the true ones.
pub true_ones-same : (sent received : List Message) (message : Message) → is_true sent message ≡ false
    → true_ones sent (received ++ message ∷ []) ≡ true_ones sent received
true_ones-same sent received message not_true =
    filter-append (is_true sent) received (message ∷ [])
    ∙ ap (λ t. true_ones sent received ++ cond t (message ∷ []) []) not_true
    ∙ append-nil (true_ones sent received)

-- A test of the true ones, where one more message came.
pub any-next : (test : Message → Bool) (sent received : List Message) (message : Message)
    → list_any test (true_ones sent (received ++ message ∷ []))
    ≡ (list_any test (true_ones sent received) || (is_true sent message && test message))
any-next test sent received message =
    ap (list_any test) (filter-append (is_true sent) received (message ∷ []))
    ∙ list_any-append test (true_ones sent received) (cond (is_true sent message) (message ∷ []) [])
    ∙ ap (λ b. list_any test (true_ones sent received) || b) (one (is_true sent message))
  where
    one : (t : Bool) → list_any test (cond t (message ∷ []) []) ≡ (t && test message)
    one true = or_false (test message)
    one false = refl

-- A test that only messages of a hart pass, where one more message of another hart came.
pub any-other : (test : Message → Bool) (sent received : List Message) (message : Message) → test message ≡ false
    → list_any test (true_ones sent (received ++ message ∷ [])) ≡ list_any test (true_ones sent received)
any-other test sent received message fails =
    any-next test sent received message
    ∙ ap (λ b. list_any test (true_ones sent received) || (is_true sent message && b)) fails
    ∙ go (is_true sent message)
  where
    go : (t : Bool) → (list_any test (true_ones sent received) || (t && false))
        ≡ list_any test (true_ones sent received)
    go true = or_false (list_any test (true_ones sent received))
    go false = or_false (list_any test (true_ones sent received))

-- The fates of messages and one more.
judged_behind-next : (sent before messages : List Message) (message : Message)
    → judged_behind sent before (messages ++ message ∷ [])
    ≡ judged_behind sent before messages ++ judged_one sent (before ++ messages) message ∷ []
judged_behind-next sent before [] message =
    ap (λ front. judged_one sent front message ∷ []) (sym (append-nil before))
judged_behind-next sent before (first ∷ messages) message =
    ap (λ rest. judged_one sent before first ∷ rest)
    (judged_behind-next sent (before ++ first ∷ []) messages message
    ∙ ap (λ front. judged_behind sent (before ++ first ∷ []) messages ++ judged_one sent front message ∷ [])
    (append_assoc before (first ∷ []) messages))

pub judged-next : (sent received : List Message) (message : Message)
    → judged sent (received ++ message ∷ []) ≡ judged sent received ++ judged_one sent received message ∷ []
judged-next sent received message = judged_behind-next sent [] received message

-- A count of fates, where one more message came.
pub counted-next : (test : Judged → Bool) (sent received : List Message) (message : Message)
    → count_by test (judged sent (received ++ message ∷ []))
    ≡ count_by test (judged sent received) + cond (test (judged_one sent received message)) 1 0
counted-next test sent received message =
    ap (count_by test) (judged-next sent received message)
    ∙ sum_by_push (λ (one : Judged). cond (test one) 1 0) (judged sent received) (judged_one sent received message)
