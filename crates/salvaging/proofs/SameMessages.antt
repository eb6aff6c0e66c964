-- The entries of messages whose numbers rise are the messages, each in its place.
use Rattle.std.proofs.Common.{◌≡◌, ◌⊎◌, inl, inr, ℕ, zero, suc, ◌+◌, ◌≤◌, ◌<◌, ◌++◌, All, Contains, List, []}
use Rattle.std.proofs.Common.{◌∷◌, map, Some, length, slice_get, refl, sym, ap, subst, ◌∙◌, arith, append_assoc}
use Rattle.std.proofs.lemmas.Bool.{cases_lt}
use Rattle.std.proofs.lemmas.List.{length_push}
use Rattle.std.proofs.lemmas.List.Elements.{All-contains, All-head, All-tail}
use Rattle.message.proofs.Elements.{slice_get-behind}
use Rattle.message.specs.declared.message.Message.{Message}
use Rattle.losses.specs.Apart.{AreRising}
use Rattle.losses.specs.WholeStretches.{NumberCame}
use Rattle.salvaging.specs.Entries.{Entry, Used, Doubtful, AreEntries, IsEntryOf, entry_number}
use Rattle.salvaging.proofs.EntriesCollected.{HaveMessages}
use Rattle.salvaging.proofs.Members.{came_of_contains, contains_of_in}
use Rattle.salvaging.proofs.OneHart.{in_at, message_with, number_in}
use Rattle.salvaging.proofs.RisingNumbers.{rising_same}
use Rattle.losses.proofs.RunsOfLog.{number_of}
use Rattle.losses.proofs.RisingBlocks.{not_below}

-- The entries are these messages, the first of which stands at this place.
abbrev pub AreMessages : ℕ → List Entry → List Message → Type 0
AreMessages place [] [] = Unit {0}
AreMessages place (Used number at payload ∷ entries) (message ∷ messages) =
    (number ≡ message.number) × (payload ≡ message.payload) × (at ≡ place) × AreMessages (place + 1) entries messages
AreMessages place entries messages = ⊥

pub have_messages : (place : ℕ) (entries : List Entry) (messages : List Message) → AreMessages place entries messages
    → HaveMessages entries messages
have_messages place [] [] are = tt
have_messages place [] (message ∷ messages) are = absurd are
have_messages place (Used number at payload ∷ entries) [] are = absurd are
have_messages place (Used number at payload ∷ entries) (message ∷ messages) (number_is, payload_is, at_is, are) =
    (number_is, payload_is, have_messages (place + 1) entries messages are)
have_messages place (Doubtful number one other ∷ entries) [] are = absurd are
have_messages place (Doubtful number one other ∷ entries) (message ∷ messages) are = absurd are

-- Of rising numbers each has one place.
rising_at : (from : ℕ) (messages : List Message) (k : ℕ) (message : Message) → AreRising from (map number_of messages)
    → slice_get messages k ≡ Some message → from ≤ message.number
rising_at from messages k message rising at =
    not_below from (map number_of messages) message.number rising (number_in messages message (in_at messages k message
    at))

pub places_rise : (from : ℕ) (messages : List Message) (i j : ℕ) (one other : Message)
    → AreRising from (map number_of messages) → slice_get messages i ≡ Some one → slice_get messages j ≡ Some other
    → i < j → one.number < other.number
places_rise from [] i j one other rising at_one at_other below = cc
places_rise from (message ∷ messages) zero zero one other rising at_one at_other below = absurd (omega (arith, below))
places_rise from (message ∷ messages) zero (suc j) one other rising at_one at_other below =
    let same : message ≡ one = cc in
    let above = rising_at (message.number + 1) messages j other rising.1 at_other in
    let number = ap number_of same in
    omega (arith, above, number)
places_rise from (message ∷ messages) (suc i) zero one other rising at_one at_other below =
    absurd (omega (arith, below))
places_rise from (message ∷ messages) (suc i) (suc j) one other rising at_one at_other below =
    places_rise (message.number + 1) messages i j one other rising.1 at_one at_other (omega (arith, below))

pub one_place : (messages : List Message) (i j : ℕ) (one other : Message) → AreRising 0 (map number_of messages)
    → slice_get messages i ≡ Some one → slice_get messages j ≡ Some other → one.number ≡ other.number → i ≡ j
one_place messages i j one other rising at_one at_other is = by_order (cases_lt i j) (cases_lt j i)
  where
    by_order : (i < j) ⊎ (j ≤ i) → (j < i) ⊎ (i ≤ j) → i ≡ j
    by_order (inl below) other_way =
        let less = places_rise 0 messages i j one other rising at_one at_other below in
        absurd (omega (arith, less, is))
    by_order (inr over) (inl below) =
        let less = places_rise 0 messages j i other one rising at_other at_one below in
        absurd (omega (arith, less, is))
    by_order (inr over) (inr least) = omega (arith, over, least)

at_same : (messages : List Message) (i j : ℕ) (one other : Message) → slice_get messages i ≡ Some one
    → slice_get messages j ≡ Some other → i ≡ j → one ≡ other
at_same messages i j one other at_one at_other is =
    let there = subst (λ k. slice_get messages k ≡ Some other) (sym is) at_other in
    let both : Some one ≡ Some other = sym at_one ∙ there in
    cc

module _ (all : List Message) (rising : AreRising 0 (map number_of all)) where
  -- The entry of a message's number is the message.
  is_message : (place : ℕ) (message : Message) (entry : Entry) → slice_get all place ≡ Some message
      → entry_number entry ≡ message.number → IsEntryOf all entry → (entries : List Entry) (messages : List Message)
      → AreMessages (place + 1) entries messages → AreMessages place (entry ∷ entries) (message ∷ messages)
  is_message place message (Used number at payload) here is used entries messages later =
      let same = one_place all at place used.message message rising used.here here (used.number_here ∙ is) in
      let own = at_same all at place used.message message used.here here same in
      (is, sym used.payload_here ∙ ap (λ (m : Message). m.payload) own, same, later)
  is_message place message (Doubtful number first second) here is doubtful entries messages later =
      let same = one_place all first second doubtful.one doubtful.other rising doubtful.one_here doubtful.other_here
      (doubtful.one_number ∙ sym doubtful.other_number) in
      absurd (doubtful.differ (ap (λ (m : Message). m.payload)
      (at_same all first second doubtful.one doubtful.other doubtful.one_here doubtful.other_here same)))

  are_messages : (front messages : List Message) (entries : List Entry) → all ≡ front ++ messages
      → map entry_number entries ≡ map number_of messages → All (IsEntryOf all) entries
      → AreMessages (length front) entries messages
  are_messages front [] [] whole numbers each = tt
  are_messages front [] (entry ∷ entries) whole numbers each = cc
  are_messages front (message ∷ messages) [] whole numbers each = cc
  are_messages front (message ∷ messages) (entry ∷ entries) whole numbers each =
      let first : entry_number entry ≡ message.number = cc in
      let rest : map entry_number entries ≡ map number_of messages = cc in
      let here = subst (λ l. slice_get l (length front) ≡ Some message) (sym whole)
      (slice_get-behind front message messages) in
      let later = are_messages (front ++ message ∷ []) messages entries
      (whole ∙ sym (append_assoc front (message ∷ []) messages)) rest (All-tail (IsEntryOf all) entry entries each) in
      is_message (length front) message entry here first (All-head (IsEntryOf all) entry entries each) entries messages
      (subst (λ n. AreMessages n entries messages) (length_push front message) later)

  pub entries_are_messages : (entries : List Entry) → AreEntries all entries → AreMessages 0 entries all
  entries_are_messages entries are =
      let numbers = rising_same 0 (map entry_number entries) (map number_of all) are.rising rising
      (λ number there. entry_came entries are.each number there)
      (λ number there.
      let found = message_with all number there in
      let contained = All-contains (λ (m : Message). Contains (map entry_number entries) m.number) all found.0
      are.none_left_out (contains_of_in all found.0 found.1) in
      subst (λ n. NumberCame n (map entry_number entries)) (sym found.2)
      (came_of_contains (map entry_number entries) found.0.number contained)) in
      are_messages [] all entries refl numbers are.each
    where
      own_number : (entry : Entry) → IsEntryOf all entry → NumberCame (entry_number entry) (map number_of all)
      own_number (Used number at payload) used =
          subst (λ n. NumberCame n (map number_of all)) used.number_here
          (number_in all used.message (in_at all at used.message used.here))
      own_number (Doubtful number first second) doubtful =
          subst (λ n. NumberCame n (map number_of all)) doubtful.one_number
          (number_in all doubtful.one (in_at all first doubtful.one doubtful.one_here))

      entry_came : (entries : List Entry) → All (IsEntryOf all) entries → (number : ℕ)
          → NumberCame number (map entry_number entries) → NumberCame number (map number_of all)
      entry_came [] each number there = absurd there
      entry_came (entry ∷ entries) each number (inl is) =
          subst (λ n. NumberCame n (map number_of all)) (sym is)
          (own_number entry (All-head (IsEntryOf all) entry entries each))
      entry_came (entry ∷ entries) each number (inr there) =
          entry_came entries (All-tail (IsEntryOf all) entry entries each) number there
