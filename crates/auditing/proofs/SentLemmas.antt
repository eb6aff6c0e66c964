-- The messages of SENT, each of which is the one that comes next of its hart.
use Rattle.std.proofs.Common.{◌≡◌, ℕ, ◌+◌, ◌<◌, ◌≤◌, Bool, true, false, cond, eqb, ltb, List, []}
use Rattle.std.proofs.Common.{◌∷◌, ◌++◌, Option, Some, None, length, refl, sym, ap, ◌∙◌, arith}
use Rattle.std.specs.Prelude.{max}
use Rattle.std.proofs.lemmas.Bool.{eqb-true, eqb-false, ltb-true, ltb-false}
use Rattle.std.proofs.lemmas.List.{append-nil, append_assoc, length_push}
use Rattle.message.proofs.OfHartLemmas.{of_hart-next, of_hart-other, of_hart-others}
use Rattle.message.specs.Numbered.{messages_from}
use Rattle.message.specs.OfHart.{of_hart}
use Rattle.message.specs.declared.fault.DemuxFault.TheVariants as demux
use Rattle.message.specs.declared.message.Message.{Message}
use Rattle.auditing.specs.Sent.{AreInTurn, harts_in, misplaced, misplaced_at, next_number}
use Rattle.auditing.specs.steps.Indexing.{payloads_of}

-- What is the one that comes next has the number that does.
pub next_is : (next : Option ℕ) (number : ℕ) → misplaced_at next number ≡ None → next ≡ Some number
next_is None number is = cc
next_is (Some next) number is = go (ltb number next) (ltb next number) refl refl is
  where
    go : (low high : Bool) → ltb number next ≡ low → ltb next number ≡ high
        → cond low (Some demux.Repeat) (cond high (Some (demux.Gap next)) None) ≡ None → Some next ≡ Some number
    go true high is_low is_high none = cc
    go false true is_low is_high none = cc
    go false false is_low is_high none =
        let above = ltb-false number next is_low in
        let below = ltb-false next number is_high in
        ap Some (omega (arith, above, below))

-- Its hart may come, and its number is how many of its hart came before.
pub next_of_hart : (harts : ℕ) (before : List Message) (message : Message) → misplaced harts before message ≡ None
    → (message.hart < harts) × (message.number ≡ length (of_hart message.hart before))
next_of_hart harts before message is =
    go (ltb message.hart harts) refl
    (next_is (next_number harts before message.hart) message.number is)
  where
    go : (known : Bool) → ltb message.hart harts ≡ known
        → cond known (Some (length (of_hart message.hart before))) None ≡ Some message.number
        → (message.hart < harts) × (message.number ≡ length (of_hart message.hart before))
    go true within next = (ltb-true message.hart harts within, cc)
    go false beyond next = cc

-- The messages of a hart are numbered from how many came before.
pub numbered : (harts hart : ℕ) (before messages : List Message) → AreInTurn harts before messages
    → of_hart hart messages ≡ messages_from hart (length (of_hart hart before)) (payloads_of (of_hart hart messages))
numbered harts hart before [] turn = refl
numbered harts hart before (message ∷ messages) turn =
    go (eqb message.hart hart) refl (numbered harts hart (before ++ message ∷ []) messages turn.1)
  where
    go : (own : Bool) → eqb message.hart hart ≡ own
        → of_hart hart messages
        ≡ messages_from hart (length (of_hart hart (before ++ message ∷ []))) (payloads_of (of_hart hart messages))
        → cond own (message ∷ of_hart hart messages) (of_hart hart messages)
        ≡ messages_from hart (length (of_hart hart before))
        (payloads_of (cond own (message ∷ of_hart hart messages) (of_hart hart messages)))
    go true is rest =
        let its = eqb-true message.hart hart is in
        let number : message.number ≡ length (of_hart hart before) =
        (next_of_hart harts before message turn.0).1 ∙ ap (λ h. length (of_hart h before)) its in
        let one_more : length (of_hart hart (before ++ message ∷ [])) ≡ length (of_hart hart before) + 1 =
        ap (λ h. length (of_hart h (before ++ message ∷ []))) (sym its)
        ∙ ap length (of_hart-next before message)
        ∙ length_push (of_hart message.hart before) message
        ∙ ap (λ h. length (of_hart h before) + 1) its in
        let tail = rest ∙ ap (λ n. messages_from hart n (payloads_of (of_hart hart messages))) one_more in
        λ i. record { hart = its i; number = number i; payload = message.payload } ∷ tail i
    go false is rest =
        rest
        ∙ ap (λ l. messages_from hart (length l) (payloads_of (of_hart hart messages)))
        (of_hart-other hart before message (eqb-false message.hart hart is))

-- No message is of a hart that may not come.
pub none_beyond : (harts hart : ℕ) (before messages : List Message) → AreInTurn harts before messages → harts ≤ hart
    → of_hart hart messages ≡ []
none_beyond harts hart before [] turn beyond = refl
none_beyond harts hart before (message ∷ messages) turn beyond =
    let within = (next_of_hart harts before message turn.0).0 in
    of_hart-others hart message messages (λ same. omega (arith, same, within, beyond))
    ∙ none_beyond harts hart (before ++ message ∷ []) messages turn.1 beyond

-- Nor of one above the highest.
pub none_above : (hart : ℕ) (messages : List Message) → harts_in messages ≤ hart → of_hart hart messages ≡ []
none_above hart [] above = refl
none_above hart (message ∷ messages) above =
    of_hart-others hart message messages (λ same. omega (arith, same, above))
    ∙ none_above hart messages (omega (arith, above))

-- The highest, with one message more.
pub harts_in-next : (messages : List Message) (message : Message)
    → harts_in (messages ++ message ∷ []) ≡ max (harts_in messages) (message.hart + 1)
harts_in-next [] message = omega arith
harts_in-next (first ∷ messages) message =
    ap (λ highest. max (first.hart + 1) highest) (harts_in-next messages message) ∙ omega arith

-- One message more is the next of its hart.
pub in_turn-next : (harts : ℕ) (before messages : List Message) (message : Message) → AreInTurn harts before messages
    → misplaced harts (before ++ messages) message ≡ None → AreInTurn harts before (messages ++ message ∷ [])
in_turn-next harts before [] message turn is =
    (ap (λ front. misplaced harts front message) (sym (append-nil before)) ∙ is, tt)
in_turn-next harts before (first ∷ messages) message turn is = (
  turn.0,
  in_turn-next harts (before ++ first ∷ []) messages message turn.1
      (ap (λ front. misplaced harts front message) (append_assoc before (first ∷ []) messages) ∙ is),
)
