-- Mixing changes the order of messages, and that of no hart's.
use Rattle.std.proofs.Common.{◌≡◌, ◌≢◌, ◌≤◌, ◌+◌, ◌∙◌, ◌++◌, All, ap, arith, refl, sym, ℕ, zero, suc, Bool, true, false}
use Rattle.std.proofs.Common.{List, [], ◌∷◌, eqb, get_or, if◌then◌else◌, length, set, subst}
use Rattle.std.proofs.lemmas.Bool.{eqb-false, eqb-true}
use Rattle.std.proofs.lemmas.List.Elements.{All-head, All-tail}
use Rattle.std.specs.List.{flat_map}
use Rattle.message.proofs.OfHartLemmas.{of_hart-append, of_hart-others}
use Rattle.message.specs.OfHart.{of_hart}
use Rattle.message.specs.declared.message.Message.{Message}
use Rattle.stimulus.specs.Mixing.{Mixed, all_left, mixed_by, mixed_from, most_turns, sends, turn, unmixed}
use Rattle.stimulus.specs.Order.{next_turn}

-- The messages at each place are of the hart of that place, where the first is this one.
abbrev pub AreOwn : ℕ → List (List Message) → Type 0
AreOwn hart [] = Unit {0}
AreOwn hart (own ∷ rest) = All (λ (message : Message). message.hart ≡ hart) own × AreOwn (hart + 1) rest

-- All of them, hart after hart.
abbrev joined : List (List Message) → List Message
joined left = flat_map (λ own. own) left

-- Another hart has none of a hart's messages.
others_none : (hart own : ℕ) (messages : List Message) → hart ≢ own
    → All (λ (message : Message). message.hart ≡ own) messages → of_hart hart messages ≡ []
others_none hart own [] other all = refl
others_none hart own (message ∷ messages) other all =
    of_hart-others hart message messages (λ is.
    other (sym is ∙ All-head (λ (message : Message). message.hart ≡ own) message messages all))
    ∙ others_none hart own messages other (All-tail (λ (message : Message). message.hart ≡ own) message messages all)

-- The hart of the first message.
abbrev first_hart : List Message → ℕ
first_hart [] = 0
first_hart (message ∷ messages) = message.hart

-- The message that is first at a place is of that hart or a later one.
hart_of : (hart place : ℕ) (left : List (List Message)) (message : Message) (rest : List Message) → AreOwn hart left
    → get_or left place [] ≡ message ∷ rest → hart ≤ message.hart
hart_of hart zero [] message rest own is = cc
hart_of hart (suc place) [] message rest own is = cc
hart_of hart zero ([] ∷ left) message rest own is = cc
hart_of hart zero ((first ∷ more) ∷ left) message rest own is =
    let here = All-head (λ (message : Message). message.hart ≡ hart) first more own.0 in
    let same : first.hart ≡ message.hart = ap first_hart is in
    omega (arith, here, same)
hart_of hart (suc place) (first ∷ left) message rest own is =
    let later = hart_of (hart + 1) place left message rest own.1 is in omega (arith, later)

-- What is left behind the first one is still of that hart.
left_own : (hart place : ℕ) (left : List (List Message)) (message : Message) (rest : List Message) → AreOwn hart left
    → get_or left place [] ≡ message ∷ rest → AreOwn hart (set left place rest)
left_own hart zero [] message rest own is = cc
left_own hart (suc place) [] message rest own is = cc
left_own hart zero (first ∷ left) message rest own is = (
  All-tail (λ (message : Message). message.hart ≡ hart) message rest
      (subst (All (λ (message : Message). message.hart ≡ hart)) is own.0),
  own.1,
)
left_own hart (suc place) (first ∷ left) message rest own is =
    (own.0, left_own (hart + 1) place left message rest own.1 is)

-- A message and those of another hart do not mix.
apart : (hart own : ℕ) (message : Message) (messages more : List Message) → message.hart ≢ own
    → All (λ (message : Message). message.hart ≡ own) messages
    → of_hart hart (message ∷ []) ++ (of_hart hart messages ++ more)
    ≡ of_hart hart messages ++ (of_hart hart (message ∷ []) ++ more)
apart hart own message messages more other all = by (eqb hart own) refl
  where
    by : (b : Bool) → eqb hart own ≡ b → of_hart hart (message ∷ []) ++ (of_hart hart messages ++ more)
        ≡ of_hart hart messages ++ (of_hart hart (message ∷ []) ++ more)
    by true is =
        let none = of_hart-others hart message [] (λ same. other (same ∙ eqb-true hart own is)) in
        ap (λ one. one ++ (of_hart hart messages ++ more)) none
        ∙ sym (ap (λ one. of_hart hart messages ++ (one ++ more)) none)
    by false is =
        let none = others_none hart own messages (eqb-false hart own is) all in
        ap (λ l. of_hart hart (message ∷ []) ++ (l ++ more)) none
        ∙ sym (ap (λ l. l ++ (of_hart hart (message ∷ []) ++ more)) none)

-- The first message at a place, before what is left then, is as where it was.
taken_first : (own place : ℕ) (left : List (List Message)) (message : Message) (rest : List Message) → AreOwn own left
    → get_or left place [] ≡ message ∷ rest → (hart : ℕ)
    → of_hart hart (message ∷ []) ++ of_hart hart (joined (set left place rest)) ≡ of_hart hart (joined left)
taken_first own zero [] message rest are is hart = cc
taken_first own (suc place) [] message rest are is hart = cc
taken_first own zero (first ∷ left) message rest are is hart =
    sym (of_hart-append hart (message ∷ []) (rest ++ joined left))
    ∙ ap (λ front. of_hart hart (front ++ joined left)) (sym is)
taken_first own (suc place) (first ∷ left) message rest are is hart =
    let later = hart_of (own + 1) place left message rest are.1 is in
    let other : message.hart ≢ own = λ same. omega (arith, later, same) in
    ap (λ l. of_hart hart (message ∷ []) ++ l) (of_hart-append hart first (joined (set left place rest)))
    ∙ apart hart own message first (of_hart hart (joined (set left place rest))) other are.0
    ∙ ap (λ l. of_hart hart first ++ l) (taken_first (own + 1) place left message rest are.1 is hart)
    ∙ sym (of_hart-append hart first (joined left))

module _ (hart own : ℕ) where
  -- What comes of the turns of a count has each hart's messages in their order.
  IsKept : ℕ → Type 0
  IsKept count = (mixed : Mixed) → AreOwn own mixed.left
      → of_hart hart (mixed_from count mixed) ≡ of_hart hart (all_left mixed)

  module _ (count : ℕ) (kept : IsKept count) (mixed : Mixed) (are : AreOwn own mixed.left) where
    sent : (place : ℕ) (drawn : _) (messages : List Message) → get_or mixed.left place [] ≡ messages
        → of_hart hart ((sends place (record mixed { drawn = drawn }) messages).0
        ++ mixed_from count (sends place (record mixed { drawn = drawn }) messages).1)
        ≡ of_hart hart (all_left mixed)
    unfolding IsKept
    sent place drawn [] is = kept _ are
    sent place drawn (message ∷ rest) is =
        of_hart-append hart (message ∷ []) (mixed_from count _)
        ∙ ap (λ l. of_hart hart (message ∷ []) ++ l) (kept _ (left_own own place mixed.left message rest are is))
        ∙ taken_first own place mixed.left message rest are is hart

    turned : of_hart hart ((turn mixed).0 ++ mixed_from count (turn mixed).1) ≡ of_hart hart (all_left mixed)
    unfolding turn
    turned =
        let next = next_turn mixed.drawn in
        sent next.0.hart next.1 (get_or mixed.left next.0.hart []) refl

    by_end : (b : Bool)
        → of_hart hart (if b then all_left mixed else ((turn mixed).0 ++ mixed_from count (turn mixed).1))
        ≡ of_hart hart (all_left mixed)
    by_end true = refl
    by_end false = turned

    more : of_hart hart (mixed_from (suc count) mixed) ≡ of_hart hart (all_left mixed)
    unfolding mixed_from
    more = by_end (eqb (length mixed.drawn.listed) 0)

  none : (mixed : Mixed) → of_hart hart (mixed_from zero mixed) ≡ of_hart hart (all_left mixed)
  unfolding mixed_from
  none mixed = refl

  all_kept : (count : ℕ) → IsKept count
  unfolding IsKept
  all_kept zero = λ mixed are. none mixed
  all_kept (suc count) = λ mixed are. more count (all_kept count) mixed are

-- Mixed messages are those of each hart, in their order.
pub mixed_kept : (hart own seed : ℕ) (left : List (List Message)) → AreOwn own left
    → of_hart hart (mixed_by seed left) ≡ of_hart hart (flat_map (λ own. own) left)
unfolding mixed_by IsKept
mixed_kept hart own seed left are = all_kept hart own most_turns (unmixed seed left) are
