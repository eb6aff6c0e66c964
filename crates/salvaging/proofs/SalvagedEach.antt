-- The harts are worked through one after the other.
use Rattle.std.proofs.Common.{◌≡◌, ◌⊎◌, inl, inr, ℕ, zero, suc, List, [], ◌∷◌, ◌++◌, Some, length, slice_get, refl}
use Rattle.std.proofs.Common.{sym, ap}
use Rattle.std.proofs.Common.{subst, ◌∙◌, ⊎_elim}
use Rattle.std.proofs.lemmas.Option.{get_or_from_slice_get, same_Some, slice_get_within}
use Rattle.std.specs.Prelude.{All}
use Rattle.std.specs.declared.vec.Vec.{Vec}
use Rattle.message.specs.declared.message.Message.{Message}
use Rattle.salvaging.specs.declared.received.ReceivedMessage.{ReceivedMessage}
use Rattle.salvaging.specs.steps.Arrivals.{Arrival, arrivals_in, placed_from}

-- An item of a list with one more at its end.
pub slice_get-push : {X : Type 0} (xs : List X) (y : X) (k : ℕ) (x : X) → slice_get (xs ++ y ∷ []) k ≡ Some x
    → (slice_get xs k ≡ Some x) ⊎ ((k ≡ length xs) × (x ≡ y))
slice_get-push [] y zero x is = inr (refl, sym (same_Some y x is))
slice_get-push [] y (suc k) x is = cc
slice_get-push (z ∷ xs) y zero x is = inl is
slice_get-push (z ∷ xs) y (suc k) x is =
    ⊎_elim (λ here. inl here) (λ last. inr (ap suc last.0, last.1)) (slice_get-push xs y k x is)

-- Where something holds of the messages and the result of each hart, it does so with one hart more.
pub one_more_hart : {A X : Type 0} (IsOf : List Message → X → Type 0) (lists : List (Vec ReceivedMessage A))
    (harts new : List X) (i : ℕ) (list : Vec ReceivedMessage A) (own : X) → length harts ≡ i
    → slice_get lists i ≡ Some list → new ≡ harts ++ own ∷ []
    → ((messages : List Message) → arrivals_in list.items ≡ placed_from 0 messages → IsOf messages own)
    → ((k : ℕ) (one : Vec ReceivedMessage A) (other : X) (messages : List Message) → slice_get lists k ≡ Some one
    → slice_get harts k ≡ Some other → arrivals_in one.items ≡ placed_from 0 messages → IsOf messages other)
    → (k : ℕ) (one : Vec ReceivedMessage A) (other : X) (messages : List Message) → slice_get lists k ≡ Some one
    → slice_get new k ≡ Some other → arrivals_in one.items ≡ placed_from 0 messages → IsOf messages other
one_more_hart IsOf lists harts new i list own count at is holds before k one other messages at_one at_other placed =
    ⊎_elim
    (λ (front : slice_get harts k ≡ Some other). before k one other messages at_one front placed)
    (λ (last : (k ≡ length harts) × (other ≡ own)).
    let here : slice_get lists i ≡ Some one = subst (λ n. slice_get lists n ≡ Some one) (last.0 ∙ count) at_one in
    let same : one ≡ list = same_Some one list (sym here ∙ at) in
    subst (IsOf messages) (sym last.1)
    (holds messages (ap (λ (v : Vec ReceivedMessage _). arrivals_in v.items) (sym same) ∙ placed)))
    (slice_get-push harts own k other (subst (λ l. slice_get l k ≡ Some other) is at_other))

-- What holds of each list holds of the one that is taken out next.
pub next_list : {A : Type 0} (Holds : List Arrival → Type 0) (first : List (Vec ReceivedMessage A)) (i : ℕ)
    (list came : Vec ReceivedMessage A)
    → All (λ (list : Vec ReceivedMessage A). Holds (arrivals_in list.items)) first
    → slice_get first i ≡ Some list → came ≡ list → Holds (arrivals_in came.items)
next_list Holds first i list came have at is =
    subst (λ (v : Vec ReceivedMessage _). Holds (arrivals_in v.items))
    (get_or_from_slice_get first i list list at ∙ sym is) (have i list (slice_get_within first i list at))
