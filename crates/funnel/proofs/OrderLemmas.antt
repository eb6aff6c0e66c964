-- The order of one hart's messages, with one more and of the first of them.
use Rattle.std.proofs.Common.{◌≡◌, ◌+◌, ◌||◌, ℕ, zero, suc, Bool, true, false, List, [], ◌∷◌, ◌++◌, length, Some}
use Rattle.std.proofs.Common.{slice_get, sym, refl, ap, ◌∙◌, ⊎_elim, arith, length-append, append-nil}
use Rattle.std.proofs.lemmas.Bool.{true≢false}
use Rattle.std.proofs.lemmas.List.{length-map}
use Rattle.std.proofs.lemmas.Option.{same_Some, slice_get-map, slice_get_within}
use Rattle.std.specs.Option.{option_map}
use Rattle.payload.specs.Closing.{is_closing}
use Rattle.message.specs.declared.message.Message.{Message}
use Rattle.funnel.specs.Order.{AreInOrder}
use Rattle.funnel.specs.Payloads.{ClosesOnlyLast, payloads_in}
use Rattle.funnel.specs.Ends.{has_closing, EndsClosing}
use Rattle.funnel.proofs.Places.{slice_get-front, slice_get-next}

-- What stands at a place of the payloads of messages is that of the message there.
message_at : (messages : List Message) (n : ℕ) (payload : List ℕ) → slice_get (payloads_in messages) n ≡ Some payload
    → (m : Message) × (slice_get messages n ≡ Some m) × (m.payload ≡ payload)
message_at [] n payload at = cc
message_at (x ∷ xs) zero payload at = (x, refl, same_Some x.payload payload at)
message_at (x ∷ xs) (suc n) payload at = message_at xs n payload at

-- A closing payload stands only last among payloads where it does so among their messages.
pub closes_last-by : (messages : List Message)
    → ((n : ℕ) (m : Message) → slice_get messages n ≡ Some m → is_closing m.payload ≡ true → length messages ≡ n + 1)
    → ClosesOnlyLast (payloads_in messages)
closes_last-by messages last n payload at closing =
    let found = message_at messages n payload at in
    length-map messages (λ (m : Message). m.payload) ∙ last n found.0 found.1 (ap is_closing found.2 ∙ closing)

-- And the other way round.
closes_last-at : (messages : List Message) → ClosesOnlyLast (payloads_in messages) → (n : ℕ) (m : Message)
    → slice_get messages n ≡ Some m → is_closing m.payload ≡ true → length messages ≡ n + 1
closes_last-at messages last n m at closing =
    let payload_in : Message → List ℕ = λ m. m.payload in
    sym (length-map messages payload_in)
    ∙ last n m.payload (slice_get-map payload_in messages n ∙ ap (option_map payload_in) at) closing

-- None of the messages is closing.
abbrev pub NoneCloses : List Message → Type 0
NoneCloses messages = (n : ℕ) (m : Message) → slice_get messages n ≡ Some m → is_closing m.payload ≡ false

pub or_false : (a b : Bool) → (a || b) ≡ false → (a ≡ false) × (b ≡ false)
or_false true b e = cc
or_false false b e = (refl, e)

pub none_closes : (messages : List Message) → has_closing messages ≡ false → NoneCloses messages
none_closes [] e n m at = cc
none_closes (x ∷ xs) e zero m at =
    let same : x ≡ m = cc in
    ap (λ (z : Message). is_closing z.payload) (sym same) ∙ (or_false (is_closing x.payload) (has_closing xs) e).0
none_closes (x ∷ xs) e (suc n) m at =
    none_closes xs (or_false (is_closing x.payload) (has_closing xs) e).1 n m at

-- The next message of a hart that is not finished keeps the order.
pub in_order-next : (messages : List Message) (x : Message) → AreInOrder x.hart messages → NoneCloses messages
    → x.number ≡ length messages → AreInOrder x.hart (messages ++ x ∷ [])
in_order-next messages x order none number = record {
  numbered = λ n m e. ⊎_elim (λ t. order.numbered n m t)
      (λ (t : (n ≡ length messages) × (x ≡ m)).
      (ap (λ (y : Message). y.hart) (sym t.1), ap (λ (y : Message). y.number) (sym t.1) ∙ number ∙ sym t.0))
      (slice_get-next messages x n m e);
  closes_last = closes_last-by (messages ++ x ∷ []) (λ n m e c.
      ⊎_elim (λ t. absurd (true≢false (sym c ∙ none n m t)))
      (λ (t : (n ≡ length messages) × (x ≡ m)). let k = t.0 in omega (arith, length-append messages (x ∷ [])))
      (slice_get-next messages x n m e));
}

-- The first of messages in order are in order.
pub in_order-front : (hart : ℕ) (front rest : List Message) → AreInOrder hart (front ++ rest) → AreInOrder hart front
in_order-front hart front rest order = record {
  numbered = λ n m at. order.numbered n m (slice_get-front front rest n m at);
  closes_last = closes_last-by front (λ n m at closing.
      let long = closes_last-at (front ++ rest) order.closes_last n m (slice_get-front front rest n m at) closing in
      let inside = slice_get_within front n m at in
      omega (arith, long, inside, length-append front rest));
}

empty : {A : Type 0} (l : List A) → length l ≡ 0 → l ≡ []
empty [] z = refl
empty (x ∷ xs) z = absurd (omega arith)

-- Messages in order that begin with some whose last is closing are no more than these.
pub ends_whole : (hart : ℕ) (whole front rest : List Message) → whole ≡ front ++ rest → AreInOrder hart whole
    → EndsClosing front → front ≡ whole
ends_whole hart whole front rest e order ends =
    let at : slice_get whole ends.0 ≡ Some ends.1 =
    ap (λ l. slice_get l ends.0) e ∙ slice_get-front front rest ends.0 ends.1 ends.3 in
    let long : length whole ≡ ends.0 + 1 = closes_last-at whole order.closes_last ends.0 ends.1 at ends.4 in
    let some : length front ≡ ends.0 + 1 = ends.2 in
    let none : length rest ≡ 0 = let k = ap length e in omega (arith, length-append front rest) in
    sym (append-nil front) ∙ ap (λ l. front ++ l) (sym (empty rest none)) ∙ sym e

-- Where no payload before is closing, the last one decides.
pub has_closing-next : (messages : List Message) (x : Message) → has_closing messages ≡ false
    → has_closing (messages ++ x ∷ []) ≡ is_closing x.payload
has_closing-next [] x e = or_no (is_closing x.payload)
  where
    or_no : (b : Bool) → (b || false) ≡ b
    or_no true = refl
    or_no false = refl
has_closing-next (m ∷ ms) x e =
    let tests = or_false (is_closing m.payload) (has_closing ms) e in
    ap (λ (b : Bool). b || has_closing (ms ++ x ∷ [])) tests.0 ∙ has_closing-next ms x tests.1
