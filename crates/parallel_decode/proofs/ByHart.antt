-- What a demultiplexer answers to a message depends on the earlier messages of its hart alone.
use Rattle.std.proofs.Common.{◌≡◌, ◌≢◌, ◌⊎◌, inl, inr, ◌<◌, ℕ, zero, suc, All, List, [], ◌∷◌, Some}
use Rattle.std.proofs.Common.{length, replicate, set, slice_get, refl, sym, ap, subst, ◌∙◌, arith}
use Rattle.std.specs.Prelude.{IsOk}
use Rattle.std.proofs.lemmas.Bool.{cases_eq}
use Rattle.std.proofs.lemmas.List.{get_or-replicate, length-replicate, length-set}
use Rattle.std.proofs.lemmas.List.Elements.{All-cons, All-head, All-nil, All-tail}
use Rattle.std.proofs.lemmas.Option.{slice_get-get_or, same_Some}
use Rattle.message.proofs.Elements.{slice_get-some}
use Rattle.message.proofs.OfHartLemmas.{of_hart-others, of_hart-own}
use Rattle.message.specs.Accepted.{AreAccepted, expected_after, newcomers}
use Rattle.message.specs.Accepting.{accepting, answer, answer_of, harts_after, harts_after_found, state_after}
use Rattle.message.specs.Harts.{Harts, newcomer}
use Rattle.message.specs.OfHart.{of_hart}
use Rattle.message.specs.declared.hart.Hart.{Hart}
use Rattle.message.specs.declared.message.Message.{Message}
use Rattle.receiver.proofs.AcceptLemmas.{expected_others}
use Rattle.parallel_decode.specs.steps.OwnMessages.{AreOwnAccepted, own_after}
use Rattle.parallel_decode.specs.steps.Walked.{IsOfHarts}

-- What was written at a place within a list is there.
pub set-found : {X : Type 0} (xs : List X) (i : ℕ) (old new : X) → slice_get xs i ≡ Some old
    → slice_get (set xs i new) i ≡ Some new
set-found [] i old new is = cc
set-found (x ∷ xs) zero old new is = refl
set-found (x ∷ xs) (suc i) old new is = set-found xs i old new is

-- What is expected after a message of a known hart.
after_known : (expected : Harts) (message : Message) (h : Hart) → slice_get expected message.hart ≡ Some h
    → harts_after expected message ≡ set expected message.hart (state_after h message)
after_known expected message h is = ap (harts_after_found expected message) is

-- What is expected of the message's hart after it,
pub after_own : (expected : Harts) (message : Message) (h : Hart) → slice_get expected message.hart ≡ Some h
    → slice_get (harts_after expected message) message.hart ≡ Some (state_after h message)
after_own expected message h is =
    ap (λ harts. slice_get harts message.hart) (after_known expected message h is)
    ∙ set-found expected message.hart h (state_after h message) is

-- and of how many harts something is.
pub after_count : (expected : Harts) (message : Message) (h : Hart) → slice_get expected message.hart ≡ Some h
    → length (harts_after expected message) ≡ length expected
after_count expected message h is =
    ap length (after_known expected message h is) ∙ length-set expected message.hart (state_after h message)

-- What is expected of a hart after messages follows from its own.
pub expected-own : (expected : Harts) (messages : List Message) (hart : ℕ) (h : Hart)
    → slice_get expected hart ≡ Some h
    → slice_get (expected_after expected messages) hart ≡ Some (own_after h (of_hart hart messages))
expected-own expected [] hart h is = is
expected-own expected (message ∷ messages) hart h is =
    by_hart (cases_eq message.hart hart) (λ next. expected-own (harts_after expected message) messages hart next)
  where
    by_hart : (message.hart ≡ hart) ⊎ (message.hart ≢ hart)
        → ((next : Hart) → slice_get (harts_after expected message) hart ≡ Some next
        → slice_get (expected_after (harts_after expected message) messages) hart
        ≡ Some (own_after next (of_hart hart messages)))
        → slice_get (expected_after (harts_after expected message) messages) hart
        ≡ Some (own_after h (of_hart hart (message ∷ messages)))
    by_hart (inl here) others =
        let own : slice_get expected message.hart ≡ Some h = ap (slice_get expected) here ∙ is in
        let after = subst (λ hart. slice_get (harts_after expected message) hart ≡ Some (state_after h message)) here
        (after_own expected message h own) in
        let first = subst (λ hart. of_hart hart (message ∷ messages) ≡ message ∷ of_hart hart messages) here
        (of_hart-own message messages) in
        others (state_after h message) after ∙ ap (λ own. Some (own_after h own)) (sym first)
    by_hart (inr apart) others =
        others h (expected_others expected message hart (λ same. apart (sym same)) ∙ is)
        ∙ ap (λ own. Some (own_after h own)) (sym (of_hart-others hart message messages apart))

-- Messages are accepted where of each hart its own are.
pub all-accepted : (expected : Harts) (messages : List Message)
    → All (IsOfHarts (length expected)) messages
    → ((hart : ℕ) (h : Hart) → slice_get expected hart ≡ Some h → AreOwnAccepted h (of_hart hart messages))
    → AreAccepted expected messages
all-accepted expected [] known own = tt
all-accepted expected (message ∷ messages) known own =
    let within = All-head (IsOfHarts (length expected)) message messages known in
    let found = slice_get-some expected message.hart within in
    let parts = subst (AreOwnAccepted found.0) (of_hart-own message messages) (own message.hart found.0 found.1) in
    let count = after_count expected message found.0 found.1 in (
      subst (λ o. IsOk (answer_of o message)) (sym found.1) parts.0,
      all-accepted (harts_after expected message) messages
          (subst (λ n. All (IsOfHarts n) messages) (sym count)
          (All-tail (IsOfHarts (length expected)) message messages known))
          (λ hart h is. others hart h is (cases_eq message.hart hart) found.0 found.1 parts.1),
    )
  where
    others : (hart : ℕ) (h : Hart) → slice_get (harts_after expected message) hart ≡ Some h
        → (message.hart ≡ hart) ⊎ (message.hart ≢ hart) → (its : Hart) → slice_get expected message.hart ≡ Some its
        → AreOwnAccepted (state_after its message) (of_hart message.hart messages)
        → AreOwnAccepted h (of_hart hart messages)
    others hart h is (inl here) its found rest =
        let same : state_after its message ≡ h = same_Some (state_after its message) h
        (sym (after_own expected message its found) ∙ ap (slice_get (harts_after expected message)) here ∙ is) in
        subst (λ hart. AreOwnAccepted h (of_hart hart messages)) here
        (subst (λ h. AreOwnAccepted h (of_hart message.hart messages)) same rest)
    others hart h is (inr apart) its found rest =
        subst (AreOwnAccepted h) (of_hart-others hart message messages apart)
        (own hart h (sym (expected_others expected message hart (λ same. apart (sym same))) ∙ is))

-- What holds of each hart's messages holds of all.
pub all-of-harts : (P : Message → Type 0) (harts : ℕ) (messages : List Message) → All (IsOfHarts harts) messages
    → ((hart : ℕ) → hart < harts → All P (of_hart hart messages)) → All P messages
all-of-harts P harts [] known own = All-nil P
all-of-harts P harts (message ∷ messages) known own =
    let within = All-head (IsOfHarts harts) message messages known in
    let first = subst (All P) (of_hart-own message messages) (own message.hart within) in
    All-cons P message messages (All-head P message (of_hart message.hart messages) first)
    (all-of-harts P harts messages (All-tail (IsOfHarts harts) message messages known)
    (λ hart below. others hart below (cases_eq message.hart hart)
    (All-tail P message (of_hart message.hart messages) first)))
  where
    others : (hart : ℕ) → hart < harts → (message.hart ≡ hart) ⊎ (message.hart ≢ hart)
        → All P (of_hart message.hart messages) → All P (of_hart hart messages)
    others hart below (inl here) rest = subst (λ hart. All P (of_hart hart messages)) here rest
    others hart below (inr apart) rest =
        subst (All P) (of_hart-others hart message messages apart) (own hart below)

-- Of each hart below the count a newcomer is expected, and of no other.
pub newcomer-at : (harts hart : ℕ) → hart < harts → slice_get (newcomers harts) hart ≡ Some newcomer
newcomer-at harts hart within =
    slice_get-get_or (replicate harts newcomer) hart newcomer
    (omega (arith, within, length-replicate harts newcomer))
    ∙ ap Some (get_or-replicate harts hart newcomer newcomer within)

-- What is answered to a message after messages follows from those of its hart.
pub accepting-own : (harts : ℕ) (messages : List Message) (message : Message) → message.hart < harts
    → accepting (expected_after (newcomers harts) messages) message
    ≡ answer (own_after newcomer (of_hart message.hart messages)) message
accepting-own harts messages message within =
    ap (λ o. answer_of o message)
    (expected-own (newcomers harts) messages message.hart newcomer (newcomer-at harts message.hart within))
