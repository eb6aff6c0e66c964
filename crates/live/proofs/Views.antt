-- What is in view, by what is held.
use Rattle.std.proofs.Common.{◌≡◌, ◌⊎◌, inl, inr, ℕ, zero, suc, ◌+◌, ◌-◌, ◌*◌, ◌<◌, ◌≤◌, Bool, true, false, cond, eqb, ltb, not, ◌&&◌}
use Rattle.std.proofs.Common.{List, [], ◌∷◌, ◌++◌, Option, Some, None, drop, length, map, slice_get, take, refl, sym, ap, subst}
use Rattle.std.proofs.Common.{◌∙◌, arith}
use Rattle.std.proofs.lemmas.Bool.{cases_lt, lt-ltb, le-ltb, ltb-false}
use Rattle.std.proofs.lemmas.List.{append_assoc, drop-append-le, length-append, length-drop, length-take, take-append-drop, take_all}
use Rattle.std.proofs.lemmas.List.{take-append-le}
use Rattle.message.proofs.OfHartLemmas.{of_hart-append}
use Rattle.message.specs.OfHart.{of_hart}
use Rattle.message.specs.declared.message.Message.{Message}
use Rattle.auditing.proofs.SentLemmas.{none_beyond}
use Rattle.auditing.specs.Sent.{AreInTurn}
use Rattle.live.specs.Compared.{known_trues}
use Rattle.live.specs.Holding.{Holding}
use Rattle.live.specs.Holds.{Holds, is_wanted}
use Rattle.live.specs.Live.{held}
use Rattle.live.specs.View.{given_up, in_view, is_below, standing_from, standing_of}
use Rattle.live.specs.declared.numbers.Numbers.{Numbers}
use Rattle.live.specs.declared.standing.Standing.TheVariants as standing
use Rattle.live.specs.steps.Searching.{is_at}
use Rattle.std.proofs.lemmas.Option.{slice_get_within}
use Rattle.live.specs.steps.Reading.{wants_by, wants_in}
use Rattle.live.proofs.Reading.{beyond_harts, held_count}
use Rattle.live.proofs.Standings.{is_one, no_fewer, stands_at, stands_beyond, stands_nowhere, stands_same, turns_split}

-- At most so many messages are in view.
pub view_bounded : (window : ℕ) (sent : List Message) (front : ℕ) → length (in_view window sent front) ≤ 2 * window + 1
view_bounded window sent front =
    let dropped = length-drop (given_up window front) (take (front + window) sent) in
    let taken = length-take (front + window) sent in
    omega (arith, dropped, taken)

-- Where nothing after the view was read, what is in view is all that is not given up.
pub view_is : (window : ℕ) (sent : List Message) (front : ℕ) → length sent ≤ front + window
    → in_view window sent front ≡ drop (given_up window front) sent
view_is window sent front ahead = ap (λ l. drop (given_up window front) l) (take_all (front + window) sent ahead)

-- What is held at a place is what is in view there.
pub held_at : (trues messages : List Message) (hart number k : ℕ)
    → is_at (map (held trues) messages) hart number k ≡ is_one hart number (slice_get messages k)
held_at trues [] hart number k = refl
held_at trues (message ∷ messages) hart number zero = refl
held_at trues (message ∷ messages) hart number (suc k) = held_at trues messages hart number k

-- As many messages of a list and more of what follows it.
take_past : (n : ℕ) (first more : List Message) → length first ≤ n
    → take n (first ++ more) ≡ first ++ take (n - length first) more
take_past n [] more within = ap (λ k. take k more) (omega arith)
take_past zero (message ∷ first) more within = absurd (omega (arith, within))
take_past (suc n) (message ∷ first) more within =
    ap (λ l. message ∷ l)
    (take_past n first more (omega (arith, within)) ∙ ap (λ k. first ++ take k more) (omega arith))

-- A list has no more messages of a hart than messages.
no_more_of : (hart : ℕ) (messages : List Message) → length (of_hart hart messages) ≤ length messages
no_more_of hart [] = omega arith
no_more_of hart (message ∷ messages) = go (eqb message.hart hart) (no_more_of hart messages)
  where
    go : (its : Bool) → length (of_hart hart messages) ≤ length messages
        → length (cond its (message ∷ of_hart hart messages) (of_hart hart messages)) ≤ length (message ∷ messages)
    go true few = omega (arith, few)
    go false few = omega (arith, few)

-- Of three tests that do not all pass the last one fails, where the others pass.
and_false : (known read near : Bool) → known ≡ true → read ≡ false → (known && (not read && near)) ≡ false
    → near ≡ false
and_false true false near is_known is_unread is = is
and_false true true near is_known is_unread is = cc
and_false false read near is_known is_unread is = cc

module _ (sent came : List Message) (front : ℕ) (own : Holding) (holds : Holds sent came front own) (hart number : ℕ) where
  abbrev given : List Message
  given = take (given_up own.window front) sent

  abbrev later : List Message
  later = drop (given_up own.window front) sent

  parts : given ++ later ≡ sent
  parts = take-append-drop (given_up own.window front) sent

  -- What is not given up is in turn.
  pub turn : AreInTurn (length own.harts) given later
  turn =
      (turns_split (length own.harts) [] given later
      (subst (λ l. AreInTurn (length own.harts) [] l) (sym parts) holds.in_turn)).1

  -- The standing by two tests.
  pub by_tests : (low : Bool) → is_below own.window sent front hart number ≡ low
      → standing_of own.window sent front hart number
      ≡ cond low standing.Below (standing_from 0 later hart number)
  by_tests low is =
      ap (λ b. cond b standing.Below (standing_from 0 (in_view own.window sent front) hart number)) is
      ∙ ap (λ l. cond low standing.Below (standing_from 0 l hart number)) (view_is own.window sent front holds.ahead)

  -- A number that is given up is below.
  pub below : number < length (of_hart hart given) → standing.Below ≡ standing_of own.window sent front hart number
  below low = sym (by_tests true (lt-ltb number (length (of_hart hart given)) low))

  -- No more of a hart are given up than were read.
  pub fewer_given : length (of_hart hart given) ≤ length (of_hart hart sent)
  fewer_given = subst (λ l. length (of_hart hart given) ≤ length (of_hart hart l)) parts (no_fewer hart given later)

  -- A number that was not read is beyond.
  pub beyond : length (of_hart hart sent) ≤ number → standing.Beyond ≡ standing_of own.window sent front hart number
  beyond past =
      let few = fewer_given in
      sym (by_tests false (le-ltb number (length (of_hart hart given)) (omega (arith, past, few)))
      ∙ stands_beyond (length own.harts) given later turn 0 hart number
      (inr (subst (λ l. length (of_hart hart l) ≤ number) (sym parts) past)))

  -- No number of a hart that is not known was read.
  pub unknown : length own.harts ≤ hart → standing.Beyond ≡ standing_of own.window sent front hart number
  unknown past =
      let none = ap length (none_beyond (length own.harts) hart [] sent holds.in_turn past) in
      beyond (omega (arith, none))

  -- A message is at the place where it is held.
  pub at_place : length (of_hart hart given) ≤ number → (k : ℕ) → is_at own.slots hart number k ≡ true
      → standing.At k ≡ standing_of own.window sent front hart number
  at_place high k is =
      sym (by_tests false (le-ltb number (length (of_hart hart given)) high)
      ∙ stands_at (length own.harts) given later turn 0 hart number k
      (sym (held_at (known_trues own.by sent came) later hart number k) ∙ ap (λ l. is_at l hart number k) (sym holds.slots) ∙ is)
      ∙ ap standing.At (omega arith))

  -- A message that is held at no place is beyond.
  pub nowhere : length (of_hart hart given) ≤ number → ((k : ℕ) → is_at own.slots hart number k ≡ false)
      → standing.Beyond ≡ standing_of own.window sent front hart number
  nowhere high none =
      sym (by_tests false (le-ltb number (length (of_hart hart given)) high)
      ∙ stands_nowhere later 0 hart number
      (λ k. sym (held_at (known_trues own.by sent came) later hart number k) ∙ ap (λ l. is_at l hart number k) (sym holds.slots) ∙ none k))

  -- How many places in view are left.
  abbrev left : ℕ
  left = front + own.window - length sent

  -- Of the messages that are read next none before the end of the view is this one. So they change nothing.
  pub settles : (more : List Message) → AreInTurn (length own.harts) [] (sent ++ more)
      → (number < length (of_hart hart sent)) ⊎ (length (of_hart hart (sent ++ take left more)) ≤ number)
      → standing_of own.window (sent ++ more) front hart number ≡ standing_of own.window sent front hart number
  settles more all out =
      ap (λ l. cond (ltb number (length (of_hart hart l))) standing.Below
      (standing_from 0 (in_view own.window (sent ++ more) front) hart number)) same_given
      ∙ ap (λ l. cond (is_below own.window sent front hart number) standing.Below (standing_from 0 l hart number)) same_view
      ∙ ap (λ s. cond (is_below own.window sent front hart number) standing.Below s)
      (stands_same later (take left more) 0 hart number none
      ∙ ap (λ l. standing_from 0 l hart number) (sym (view_is own.window sent front holds.ahead)))
    where
      low : given_up own.window front ≤ length sent
      low = let read = holds.read in omega (arith, read)

      same_given : take (given_up own.window front) (sent ++ more) ≡ given
      same_given = take-append-le (given_up own.window front) sent more low

      same_view : in_view own.window (sent ++ more) front ≡ later ++ take left more
      same_view =
          ap (λ l. drop (given_up own.window front) l) (take_past (front + own.window) sent more holds.ahead)
          ∙ drop-append-le (given_up own.window front) sent (take left more) low

      both : AreInTurn (length own.harts) sent (take left more ++ drop left more)
      both =
          subst (λ l. AreInTurn (length own.harts) sent l) (sym (take-append-drop left more))
          (turns_split (length own.harts) [] sent more all).1

      none : (from : ℕ) → standing_from from (take left more) hart number ≡ standing.Beyond
      none from =
          stands_beyond (length own.harts) sent (take left more)
          (turns_split (length own.harts) sent (take left more) (drop left more) both).0 from hart number out

  -- A message that is not wanted is none of those that are read next before the end of the view.
  pub unwanted : (more : List Message) → AreInTurn (length own.harts) [] (sent ++ more)
      → is_wanted (length own.harts) own.window sent front hart number ≡ false
      → standing_of own.window (sent ++ more) front hart number ≡ standing_of own.window sent front hart number
  unwanted more all is = settles more all (go (cases_lt hart (length own.harts)) (cases_lt number (length (of_hart hart sent))))
    where
      few : length (of_hart hart (sent ++ take left more)) ≤ length (of_hart hart sent) + left
      few =
          let whole = ap length (of_hart-append hart sent (take left more)) in
          let sum = length-append (of_hart hart sent) (of_hart hart (take left more)) in
          let own_ones = no_more_of hart (take left more) in
          let taken = length-take left more in
          omega (arith, whole, sum, own_ones, taken)

      strange : length own.harts ≤ hart → length (of_hart hart (sent ++ take left more)) ≤ number
      strange past =
          let whole = turns_split (length own.harts) [] (sent ++ take left more) (drop left more)
          (subst (λ l. AreInTurn (length own.harts) [] l)
          (ap (λ l. sent ++ l) (sym (take-append-drop left more)) ∙ sym (append_assoc sent (take left more) (drop left more))) all) in
          let none = ap length (none_beyond (length own.harts) hart [] (sent ++ take left more) whole.0 past) in
          omega (arith, none)

      far : hart < length own.harts → length (of_hart hart sent) ≤ number
          → length (of_hart hart (sent ++ take left more)) ≤ number
      far known unread =
          let test = and_false (ltb hart (length own.harts)) (ltb number (length (of_hart hart sent)))
          (ltb (number - length (of_hart hart sent)) left) (lt-ltb hart (length own.harts) known)
          (le-ltb number (length (of_hart hart sent)) unread) is in
          let past = ltb-false (number - length (of_hart hart sent)) left test in
          let at_most = few in
          omega (arith, past, at_most, unread)

      go : (hart < length own.harts) ⊎ (length own.harts ≤ hart)
          → (number < length (of_hart hart sent)) ⊎ (length (of_hart hart sent) ≤ number)
          → (number < length (of_hart hart sent)) ⊎ (length (of_hart hart (sent ++ take left more)) ≤ number)
      go (inl known) (inl read) = inl read
      go (inl known) (inr unread) = inr (far known unread)
      go (inr past) read = inr (strange past)

  -- Whether a message is wanted, by what is held.
  pub wanted_by : wants_in own hart number ≡ is_wanted (length own.harts) own.window sent front hart number
  wanted_by = go (slice_get own.harts hart) refl
    where
      space : own.near + own.window - length own.slots ≡ left
      space =
          let count = held_count sent came front own holds in
          let near = holds.near in
          let read = holds.read in
          omega (arith, count, near, read)

      go : (o : Option Numbers) → slice_get own.harts hart ≡ o
          → wants_by o (own.near + own.window - length own.slots) number
          ≡ is_wanted (length own.harts) own.window sent front hart number
      go None at =
          sym (ap (λ b. b && (not (ltb number (length (of_hart hart sent)))
          && ltb (number - length (of_hart hart sent)) left))
          (le-ltb hart (length own.harts) (beyond_harts own.harts hart at)))
      go (Some numbers) at =
          let is = (holds.harts hart numbers at).read in
          (λ i. not (ltb number (is i)) && ltb (number - is i) (space i))
          ∙ sym (ap (λ b. b && (not (ltb number (length (of_hart hart sent)))
          && ltb (number - length (of_hart hart sent)) left))
          (lt-ltb hart (length own.harts) (slice_get_within own.harts hart numbers at)))
