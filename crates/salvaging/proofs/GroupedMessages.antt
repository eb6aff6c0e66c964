-- The entries and the copies of a hart's messages, from the messages in the order of their numbers.
use Rattle.std.proofs.Common.{◌≡◌, ◌≢◌, inl, inr, ℕ, zero, suc, ◌+◌, All, Bool, true, false, Contains, List, [], ◌∷◌}
use Rattle.std.proofs.Common.{map}
use Rattle.std.proofs.Common.{Some, slice_get, refl, sym, ap, subst, ◌∙◌, arith}
use Rattle.std.specs.List.Sorted.{IsPermutation}
use Rattle.std.specs.Str.{bytes_eq}
use Rattle.std.proofs.lemmas.List.{length-map}
use Rattle.std.proofs.lemmas.List.Elements.{All-cons, All-nil, All-weaker}
use Rattle.std.proofs.lemmas.List.Sorted.{Contains-permutation, IsPermutation-sym, length_permutation}
use Rattle.message.specs.declared.message.Message.{Message}
use Rattle.losses.specs.WholeStretches.{NumberCame}
use Rattle.salvaging.specs.Copies.{AllDiffer, AreCopies, HasLike}
use Rattle.salvaging.specs.Entries.{Entry, Used, Doubtful, AreEntries, IsEntryOf, entry_number}
use Rattle.salvaging.specs.steps.Arrivals.{Arrival, AreOrdered, placed_from}
use Rattle.salvaging.specs.steps.Grouping.{copies_by, entries_by}
use Rattle.salvaging.proofs.Alike.{other_bytes, same_bytes}
use Rattle.salvaging.proofs.Distributed.{length-placed}
use Rattle.salvaging.proofs.GroupedEntries.{entries_are}
use Rattle.salvaging.proofs.OneMore.{IsEntryAmong}
use Rattle.salvaging.proofs.Members.{IsIn, all_in, contains_of_came, contains_of_in, in_of_contains}
use Rattle.salvaging.proofs.NeighbouringCopies.{NoneAlike, among, counted, first_ones, first_ones_differ}
use Rattle.salvaging.proofs.NeighbouringCopies.{has_first}
use Rattle.salvaging.proofs.OrderLemmas.{Each}

abbrev placed : ℕ → Message → Arrival
placed place message = record { place = place; message = message }

abbrev message_in : Arrival → Message
message_in arrival = arrival.message

-- What is placed stands at its place.
at_place : (from : ℕ) (messages : List Message) (one : Arrival) → IsIn one (placed_from from messages)
    → (k : ℕ) × (one.place ≡ from + k) × (slice_get messages k ≡ Some one.message)
at_place from [] one there = absurd there
at_place from (message ∷ messages) one (inl is) =
    let place = ap (λ (a : Arrival). a.place) is in
    (0, omega (arith, place), ap Some (sym (ap message_in is)))
at_place from (message ∷ messages) one (inr there) =
    let found = at_place (from + 1) messages one there in
    let place = found.1 in
    (suc found.0, omega (arith, place), found.2)

-- And what stands at a place is placed there.
pub placed_at : (from : ℕ) (messages : List Message) (k : ℕ) (message : Message) → slice_get messages k ≡ Some message
    → IsIn (placed (from + k) message) (placed_from from messages)
placed_at from [] k message at = cc
placed_at from (first ∷ messages) zero message at =
    let same : message ≡ first = cc in
    let here : from + 0 ≡ from = omega arith in
    inl (ap (λ n. placed n message) here ∙ ap (placed from) same)
placed_at from (first ∷ messages) (suc k) message at =
    let on : from + 1 + k ≡ from + suc k = omega arith in
    inr (subst (λ n. IsIn (placed n message) (placed_from (from + 1) messages)) on
    (placed_at (from + 1) messages k message at))

in_at : (messages : List Message) (k : ℕ) (message : Message) → slice_get messages k ≡ Some message
    → IsIn message messages
in_at [] k message at = cc
in_at (first ∷ messages) zero message at = let same : message ≡ first = cc in inl same
in_at (first ∷ messages) (suc k) message at = inr (in_at messages k message at)

-- A message is placed somewhere.
placed_of : (from : ℕ) (messages : List Message) (message : Message) → IsIn message messages
    → (one : Arrival) × IsIn one (placed_from from messages) × (one.message ≡ message)
placed_of from [] message there = absurd there
placed_of from (first ∷ messages) message (inl is) = (placed from first, inl refl, sym is)
placed_of from (first ∷ messages) message (inr there) =
    let found = placed_of (from + 1) messages message there in (found.0, inr found.1, found.2)

-- Payloads that do not differ are the same.
same_payload : (one other : List ℕ) → ¬ (one ≢ other) → one ≡ other
same_payload one other not_apart = by_test (bytes_eq one other) refl
  where
    by_test : (same : Bool) → bytes_eq one other ≡ same → one ≡ other
    by_test true test = same_bytes one other test
    by_test false test = absurd (not_apart (other_bytes one other test))

module _ (messages : List Message) (arrivals : List Arrival)
    (permuted : IsPermutation (placed_from 0 messages) arrivals) (ordered : AreOrdered arrivals) where
  -- All arrivals are placed, and what is placed is among them.
  pub stands : (one : Arrival) → IsIn one arrivals → slice_get messages one.place ≡ Some one.message
  stands one there =
      let contained = Contains-permutation arrivals (placed_from 0 messages) one
      (IsPermutation-sym (placed_from 0 messages) arrivals permuted) (contains_of_in arrivals one there) in
      let found = at_place 0 messages one (in_of_contains (placed_from 0 messages) one contained) in
      let place = found.1 in
      let here : found.0 ≡ one.place = omega (arith, place) in
      subst (λ n. slice_get messages n ≡ Some one.message) here found.2

  pub is_there : (one : Arrival) → IsIn one (placed_from 0 messages) → IsIn one arrivals
  is_there one there =
      in_of_contains arrivals one (Contains-permutation (placed_from 0 messages) arrivals one permuted
      (contains_of_in (placed_from 0 messages) one there))

  arrives : (message : Message) → IsIn message messages
      → (one : Arrival) × IsIn one arrivals × (one.message ≡ message)
  arrives message there =
      let found = placed_of 0 messages message there in (found.0, is_there found.0 found.1, found.2)

  came : (one : Arrival) → IsIn one arrivals → Contains messages one.message
  came one there =
      contains_of_in messages one.message (in_at messages one.place one.message (stands one there))

  -- The entries.
  entry_of_messages : (entry : Entry) → IsEntryAmong arrivals entry → IsEntryOf messages entry
  entry_of_messages (Used number place payload) is = record {
    message = is.one.message;
    here = subst (λ n. slice_get messages n ≡ Some is.one.message) is.place_is (stands is.one is.there);
    number_here = is.number_is;
    payload_here = is.payload_is;
    first = λ before other earlier at numbered.
        let there = is_there (placed (0 + before) other) (placed_at 0 messages before other at) in
        let least = is.first (placed (0 + before) other) there numbered in
        omega (arith, least, earlier);
    alone = All-weaker (λ other. IsIn other messages)
        (λ (other : Message). other.number ≡ number → other.payload ≡ payload)
        (λ other there numbered.
        let found = arrives other there in
        sym (ap (λ (m : Message). m.payload) found.2)
        ∙ is.alone found.0 found.1 (ap (λ (m : Message). m.number) found.2 ∙ numbered)) messages
        (all_in messages);
  }
  entry_of_messages (Doubtful number first second) is = record {
    one = is.one.message;
    other = is.other.message;
    one_here = subst (λ n. slice_get messages n ≡ Some is.one.message) is.one_place (stands is.one is.one_there);
    other_here = subst (λ n. slice_get messages n ≡ Some is.other.message) is.other_place
        (stands is.other is.other_there);
    one_number = is.one_number;
    other_number = is.other_number;
    differ = is.differ;
    one_first = λ before earlier below at numbered.
        let there = is_there (placed (0 + before) earlier) (placed_at 0 messages before earlier at) in
        let least = is.least (placed (0 + before) earlier) there numbered in
        omega (arith, least, below);
    other_first = λ before earlier below at numbered.
        let there = is_there (placed (0 + before) earlier) (placed_at 0 messages before earlier at) in
        same_payload earlier.payload is.one.message.payload (λ differs.
        let least = is.least_other (placed (0 + before) earlier) there numbered differs in
        omega (arith, least, below));
  }

  all_of_each : (entries : List Entry) → Each (IsEntryAmong arrivals) entries → All (IsEntryOf messages) entries
  all_of_each [] each = All-nil (IsEntryOf messages)
  all_of_each (entry ∷ entries) (is, each) =
      All-cons (IsEntryOf messages) entry entries (entry_of_messages entry is) (all_of_each entries each)

  pub entries_of_messages : AreEntries messages (entries_by arrivals)
  entries_of_messages =
      let are = entries_are arrivals ordered in
      record {
        rising = are.rising;
        each = all_of_each (entries_by arrivals) are.each;
        none_left_out = All-weaker (λ message. IsIn message messages)
            (λ (message : Message). Contains (map entry_number (entries_by arrivals)) message.number)
            (λ message there.
            let found = arrives message there in
            contains_of_came (map entry_number (entries_by arrivals)) message.number
            (subst (λ (m : Message). NumberCame m.number (map entry_number (entries_by arrivals))) found.2
            (are.all found.0 found.1))) messages (all_in messages);
      }

  -- The copies.
  message_of_one : (ones : List Arrival) (one : Arrival) → IsIn one ones → IsIn (message_in one) (map message_in ones)
  message_of_one [] one there = absurd there
  message_of_one (first ∷ ones) one (inl is) = inl (ap message_in is)
  message_of_one (first ∷ ones) one (inr there) = inr (message_of_one ones one there)

  one_of_message : (ones : List Arrival) (message : Message) → IsIn message (map message_in ones)
      → (one : Arrival) × IsIn one ones × (message ≡ one.message)
  one_of_message [] message there = absurd there
  one_of_message (first ∷ ones) message (inl is) = (first, inl refl, is)
  one_of_message (first ∷ ones) message (inr there) =
      let found = one_of_message ones message there in (found.0, inr found.1, found.2)

  all_differ : (ones : List Arrival) → NoneAlike ones → AllDiffer (map message_in ones)
  all_differ [] none = tt
  all_differ (first ∷ ones) (apart, none) = (
    λ like.
        let found = one_of_message ones like.0 (in_of_contains (map message_in ones) like.0 like.1) in
        apart found.0 found.1 (record {
          number = like.2.0 ∙ ap (λ (m : Message). m.number) found.2;
          payload = like.2.1 ∙ ap (λ (m : Message). m.payload) found.2;
        }),
    all_differ ones none,
  )

  has_like : (message : Message) → IsIn message messages → HasLike (map message_in (first_ones arrivals)) message
  has_like message there =
      let found = arrives message there in
      let first = has_first arrivals found.0 found.1 in (
        first.one.message,
        contains_of_in (map message_in (first_ones arrivals)) first.one.message
            (message_of_one (first_ones arrivals) first.one first.there),
        (
          sym (ap (λ (m : Message). m.number) found.2) ∙ first.alike.number,
          sym (ap (λ (m : Message). m.payload) found.2) ∙ first.alike.payload,
        ),
      )

  pub copies_of_messages : AreCopies messages (copies_by arrivals)
  copies_of_messages =
      let ones = first_ones arrivals in
      let all = counted arrivals in
      let long = length_permutation (placed_from 0 messages) arrivals permuted in
      let placed_count = length-placed 0 messages in
      let mapped = length-map ones message_in in
      record {
        distinct = map message_in ones;
        are_distinct = record {
          some = All-weaker (λ message. IsIn message (map message_in ones)) (Contains messages)
              (λ message there.
              let found = one_of_message ones message there in
              subst (Contains messages) (sym found.2) (came found.0 (among arrivals found.0 found.1)))
              (map message_in ones) (all_in (map message_in ones));
          all = All-weaker (λ message. IsIn message messages) (HasLike (map message_in ones)) has_like messages
              (all_in messages);
          differ = all_differ ones (first_ones_differ arrivals ordered);
        };
        others = omega (arith, all, long, placed_count, mapped);
      }
