-- Where a number of a hart is among messages each of which is the next one of its hart.
use Rattle.std.proofs.Common.{◌≡◌, ◌⊎◌, inl, inr, ℕ, zero, suc, ◌+◌, ◌<◌, ◌≤◌, Bool, true, false, cond, eqb}
use Rattle.std.proofs.Common.{List, [], ◌∷◌, ◌++◌, Option, Some, None, length, slice_get, refl, sym, ap, subst, ◌∙◌, arith}
use Rattle.std.proofs.lemmas.Bool.{and_parts, eqb-true}
use Rattle.std.proofs.lemmas.List.{append_assoc, append-nil, length-append, length_push}
use Rattle.message.proofs.OfHartLemmas.{of_hart-append, of_hart-next}
use Rattle.message.specs.OfHart.{of_hart}
use Rattle.message.specs.declared.message.Message.{Message}
use Rattle.auditing.proofs.SentLemmas.{next_of_hart}
use Rattle.auditing.specs.Fates.{is_numbered}
use Rattle.auditing.specs.Sent.{AreInTurn}
use Rattle.live.specs.View.{standing_from}
use Rattle.live.specs.declared.standing.Standing.TheVariants as standing
pub use Rattle.live.specs.steps.Searching.{is_one}

-- A message of this hart and with this number has both.
pub numbered_is : (hart number : ℕ) (message : Message) → is_numbered hart number message ≡ true
    → (message.hart ≡ hart) × (message.number ≡ number)
numbered_is hart number message is =
    let parts = and_parts (eqb message.hart hart) (eqb message.number number) is in
    (eqb-true message.hart hart parts.0, eqb-true message.number number parts.1)

-- More messages have no fewer of a hart.
pub no_fewer : (hart : ℕ) (front more : List Message) → length (of_hart hart front) ≤ length (of_hart hart (front ++ more))
no_fewer hart front more =
    let is = ap length (of_hart-append hart front more)
    ∙ length-append (of_hart hart front) (of_hart hart more) in
    omega (arith, is)

-- After a message of the hart there is one more.
pub one_more : (harts : ℕ) (before : List Message) (message : Message) (hart number : ℕ)
    → message.number ≡ length (of_hart message.hart before) → is_numbered hart number message ≡ true
    → length (of_hart hart (before ++ message ∷ [])) ≡ number + 1
one_more harts before message hart number next is =
    let its = numbered_is hart number message is in
    ap (λ h. length (of_hart h (before ++ message ∷ []))) (sym its.0)
    ∙ ap length (of_hart-next before message)
    ∙ length_push (of_hart message.hart before) message
    ∙ ap (λ n. n + 1) (sym next ∙ its.1)

-- A message's number is no less than how many of its hart are before the first of these.
pub numbered_later : (harts : ℕ) (before messages : List Message) → AreInTurn harts before messages
    → (k : ℕ) (message : Message) → slice_get messages k ≡ Some message
    → length (of_hart message.hart before) ≤ message.number
numbered_later harts before [] turn k message is = cc
numbered_later harts before (first ∷ messages) turn zero message is =
    let same : first ≡ message = cc in
    subst (λ m. length (of_hart m.hart before) ≤ m.number) same
    (let next = (next_of_hart harts before first turn.0).1 in omega (arith, next))
numbered_later harts before (first ∷ messages) turn (suc k) message is =
    let later = numbered_later harts (before ++ first ∷ []) messages turn.1 k message is in
    let fewer = no_fewer message.hart before (first ∷ []) in
    omega (arith, later, fewer)

-- None of these messages has a number of a hart that one before them has.
pub none_again : (harts : ℕ) (before messages : List Message) → AreInTurn harts before messages
    → (hart number : ℕ) → number < length (of_hart hart before) → (k : ℕ)
    → is_one hart number (slice_get messages k) ≡ true → ⊥
none_again harts before messages turn hart number fewer k is = go (slice_get messages k) refl is
  where
    go : (o : Option Message) → slice_get messages k ≡ o → is_one hart number o ≡ true → ⊥
    go None at one = cc
    go (Some message) at one =
        let its = numbered_is hart number message one in
        let later = numbered_later harts before messages turn k message at in
        let own = ap (λ h. length (of_hart h before)) its.0 in
        let same = its.1 in
        omega (arith, fewer, later, own, same)

-- A message stands at its place.
pub stands_at : (harts : ℕ) (before messages : List Message) → AreInTurn harts before messages
    → (place hart number k : ℕ) → is_one hart number (slice_get messages k) ≡ true
    → standing_from place messages hart number ≡ standing.At (place + k)
stands_at harts before [] turn place hart number k is = cc
stands_at harts before (first ∷ messages) turn place hart number zero is =
    ap (λ b. cond b (standing.At place) (standing_from (place + 1) messages hart number)) is
    ∙ ap standing.At (omega arith)
stands_at harts before (first ∷ messages) turn place hart number (suc k) is =
    go (is_numbered hart number first) refl
    (stands_at harts (before ++ first ∷ []) messages turn.1 (place + 1) hart number k is)
  where
    go : (here : Bool) → is_numbered hart number first ≡ here
        → standing_from (place + 1) messages hart number ≡ standing.At (place + 1 + k)
        → cond here (standing.At place) (standing_from (place + 1) messages hart number) ≡ standing.At (place + suc k)
    go false other later = later ∙ ap standing.At (omega arith)
    go true own later =
        let more = one_more harts before first hart number (next_of_hart harts before first turn.0).1 own in
        absurd
        (none_again harts (before ++ first ∷ []) messages turn.1 hart number (omega (arith, more)) k is)

-- None of these messages is of the hart and has the number.
pub stands_nowhere : (messages : List Message) (place hart number : ℕ)
    → ((k : ℕ) → is_one hart number (slice_get messages k) ≡ false)
    → standing_from place messages hart number ≡ standing.Beyond
stands_nowhere [] place hart number none = refl
stands_nowhere (first ∷ messages) place hart number none =
    ap (λ b. cond b (standing.At place) (standing_from (place + 1) messages hart number)) (none 0)
    ∙ stands_nowhere messages (place + 1) hart number (λ k. none (suc k))

-- A number that one before these messages has, or none of both, is beyond them.
pub stands_beyond : (harts : ℕ) (before messages : List Message) → AreInTurn harts before messages
    → (place hart number : ℕ)
    → (number < length (of_hart hart before)) ⊎ (length (of_hart hart (before ++ messages)) ≤ number)
    → standing_from place messages hart number ≡ standing.Beyond
stands_beyond harts before [] turn place hart number out = refl
stands_beyond harts before (first ∷ messages) turn place hart number out =
    go (is_numbered hart number first) refl
    (stands_beyond harts (before ++ first ∷ []) messages turn.1 (place + 1) hart number (still out))
  where
    whole : (before ++ first ∷ []) ++ messages ≡ before ++ first ∷ messages
    whole = append_assoc before (first ∷ []) messages

    still : (number < length (of_hart hart before)) ⊎ (length (of_hart hart (before ++ first ∷ messages)) ≤ number)
        → (number < length (of_hart hart (before ++ first ∷ [])))
        ⊎ (length (of_hart hart ((before ++ first ∷ []) ++ messages)) ≤ number)
    still (inl fewer) =
        let more = no_fewer hart before (first ∷ []) in
        inl (omega (arith, fewer, more))
    still (inr past) = inr (subst (λ l. length (of_hart hart l) ≤ number) (sym whole) past)

    never : (number < length (of_hart hart before)) ⊎ (length (of_hart hart (before ++ first ∷ messages)) ≤ number)
        → is_numbered hart number first ≡ true → ⊥
    never (inl fewer) own =
        let its = numbered_is hart number first own in
        let next = (next_of_hart harts before first turn.0).1 in
        let same = ap (λ h. length (of_hart h before)) its.0 in
        let is = its.1 in
        omega (arith, fewer, next, same, is)
    never (inr past) own =
        let more = one_more harts before first hart number (next_of_hart harts before first turn.0).1 own in
        let all = no_fewer hart (before ++ first ∷ []) messages in
        let same = ap (λ l. length (of_hart hart l)) whole in
        omega (arith, past, more, all, same)

    go : (here : Bool) → is_numbered hart number first ≡ here
        → standing_from (place + 1) messages hart number ≡ standing.Beyond
        → cond here (standing.At place) (standing_from (place + 1) messages hart number) ≡ standing.Beyond
    go false other later = later
    go true own later = absurd (never out own)

-- Messages more of which none is of the hart and has the number change nothing.
pub stands_same : (first more : List Message) (place hart number : ℕ)
    → ((from : ℕ) → standing_from from more hart number ≡ standing.Beyond)
    → standing_from place (first ++ more) hart number ≡ standing_from place first hart number
stands_same [] more place hart number none = none place
stands_same (message ∷ first) more place hart number none =
    go (is_numbered hart number message) (stands_same first more (place + 1) hart number none)
  where
    go : (here : Bool)
        → standing_from (place + 1) (first ++ more) hart number ≡ standing_from (place + 1) first hart number
        → cond here (standing.At place) (standing_from (place + 1) (first ++ more) hart number)
        ≡ cond here (standing.At place) (standing_from (place + 1) first hart number)
    go true rest = refl
    go false rest = rest

-- Messages that are each the next one of its hart are so in two parts.
pub turns_split : (harts : ℕ) (before first more : List Message) → AreInTurn harts before (first ++ more)
    → AreInTurn harts before first × AreInTurn harts (before ++ first) more
turns_split harts before [] more turn =
    (tt, subst (λ l. AreInTurn harts l more) (sym (append-nil before)) turn)
turns_split harts before (message ∷ first) more turn =
    let parts = turns_split harts (before ++ message ∷ []) first more turn.1 in
    ((turn.0, parts.0), subst (λ l. AreInTurn harts l more) (append_assoc before (message ∷ []) first) parts.1)
