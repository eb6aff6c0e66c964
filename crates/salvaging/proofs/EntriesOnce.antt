-- A hart's messages have one list of entries.
use Rattle.std.proofs.Common.{◌≡◌, ◌⊎◌, inl, inr, ℕ, ◌≤◌, ◌<◌, All, Contains, List, [], ◌∷◌, map, sym, ap}
use Rattle.std.proofs.Common.{refl, subst, ◌∙◌, arith, Some, slice_get}
use Rattle.std.proofs.lemmas.Bool.{cases_lt}
use Rattle.std.proofs.lemmas.List.Elements.{All-contains, All-head, All-tail}
use Rattle.std.proofs.lemmas.Option.{same_Some}
use Rattle.message.proofs.Elements.{All-slice_get}
use Rattle.message.specs.declared.message.Message.{Message}
use Rattle.losses.specs.WholeStretches.{NumberCame}
use Rattle.salvaging.specs.Entries.{Entry, Used, Doubtful, AreEntries, IsDoubtful, IsEntryOf, IsUsed, entry_number}
use Rattle.salvaging.proofs.Members.{came_of_contains, contains_of_in}
use Rattle.salvaging.proofs.OneHart.{in_at, message_with, number_in}
use Rattle.salvaging.proofs.RisingNumbers.{rising_same}
use Rattle.losses.proofs.RunsOfLog.{number_of}

-- Two numbers, neither of which is below the other.
not_apart : (one other : ℕ) → ¬ (one < other) → ¬ (other < one) → one ≡ other
not_apart one other not_below not_above = by_place (cases_lt one other) (cases_lt other one)
  where
    by_place : (one < other) ⊎ (other ≤ one) → (other < one) ⊎ (one ≤ other) → one ≡ other
    by_place (inl below) more = absurd (not_below below)
    by_place (inr over) (inl above) = absurd (not_above above)
    by_place (inr over) (inr least) = omega (arith, over, least)

one_at : (messages : List Message) (here there : ℕ) (one other : Message) → here ≡ there
    → slice_get messages here ≡ Some one → slice_get messages there ≡ Some other → one ≡ other
one_at messages here there one other same at too =
    same_Some one other (sym at ∙ ap (slice_get messages) same ∙ too)

-- A number whose messages all have one payload is not doubtful.
used_not_doubtful : (messages : List Message) (number place : ℕ) (payload : List ℕ) (first second : ℕ)
    → IsUsed messages number place payload → ¬ IsDoubtful messages number first second
used_not_doubtful messages number place payload first second used doubtful =
    let one = All-slice_get (λ (m : Message). m.number ≡ number → m.payload ≡ payload) messages first doubtful.one
    doubtful.one_here used.alone doubtful.one_number in
    let other = All-slice_get (λ (m : Message). m.number ≡ number → m.payload ≡ payload) messages second doubtful.other
    doubtful.other_here used.alone doubtful.other_number in
    doubtful.differ (one ∙ sym other)

-- A doubtful number has one first message, and one first message that differs from it.
module _ (messages : List Message) (number first second at behind : ℕ) (one : IsDoubtful messages number first second)
    (other : IsDoubtful messages number at behind) where
  no_earlier : ¬ (first < at)
  no_earlier below = other.one_first first one.one below one.one_here one.one_number

  no_sooner : one.one ≡ other.one → ¬ (second < behind)
  no_sooner same below =
      let payload = other.other_first second one.other below one.other_here one.other_number in
      one.differ (ap (λ (m : Message). m.payload) same ∙ sym payload)

one_doubtful : (messages : List Message) (number first second at behind : ℕ)
    → IsDoubtful messages number first second → IsDoubtful messages number at behind
    → (first ≡ at) × (second ≡ behind)
one_doubtful messages number first second at behind one other =
    let firsts = not_apart first at (no_earlier messages number first second at behind one other)
    (no_earlier messages number at behind first second other one) in
    let ones = one_at messages first at one.one other.one firsts one.one_here other.one_here in (
      firsts,
      not_apart second behind (no_sooner messages number first second at behind one other ones)
          (no_sooner messages number at behind first second other one (sym ones)),
    )

-- Messages have one list of entries.
same_entry : (messages : List Message) (one other : Entry) → IsEntryOf messages one → IsEntryOf messages other
    → entry_number one ≡ entry_number other → one ≡ other
same_entry messages (Used number place payload) (Used again there bytes) used too is =
    by_place (cases_lt place there) (cases_lt there place)
  where
    by_place : (place < there) ⊎ (there ≤ place) → (there < place) ⊎ (place ≤ there)
        → Used number place payload ≡ Used again there bytes
    by_place (inl below) other_way =
        absurd (too.first place used.message below used.here (used.number_here ∙ is))
    by_place (inr over) (inl below) =
        absurd (used.first there too.message below too.here (too.number_here ∙ sym is))
    by_place (inr over) (inr least) =
        let places : place ≡ there = omega (arith, over, least) in
        let same = All-slice_get (λ (m : Message). m.number ≡ again → m.payload ≡ bytes) messages place used.message
        used.here too.alone (used.number_here ∙ is) in
        ap (λ n. Used n place payload) is ∙ ap (λ p. Used again p payload) places
        ∙ ap (Used again there) (sym used.payload_here ∙ same)
same_entry messages (Used number place payload) (Doubtful again first second) used doubtful is =
    absurd (used_not_doubtful messages number place payload first second used
    (subst (λ n. IsDoubtful messages n first second) (sym is) doubtful))
same_entry messages (Doubtful number first second) (Used again place payload) doubtful used is =
    absurd (used_not_doubtful messages again place payload first second used
    (subst (λ n. IsDoubtful messages n first second) is doubtful))
same_entry messages (Doubtful number first second) (Doubtful again at behind) doubtful too is =
    let both = one_doubtful messages again first second at behind
    (subst (λ n. IsDoubtful messages n first second) is doubtful) too in
    ap (λ n. Doubtful n first second) is ∙ ap (λ p. Doubtful again p second) both.0 ∙ ap (Doubtful again at) both.1

same_entries : (messages : List Message) (entries others : List Entry) → All (IsEntryOf messages) entries
    → All (IsEntryOf messages) others → map entry_number entries ≡ map entry_number others → entries ≡ others
same_entries messages [] [] each every numbers = refl
same_entries messages [] (other ∷ others) each every numbers = cc
same_entries messages (entry ∷ entries) [] each every numbers = cc
same_entries messages (entry ∷ entries) (other ∷ others) each every numbers =
    let first : entry_number entry ≡ entry_number other = cc in
    let rest : map entry_number entries ≡ map entry_number others = cc in
    let same = same_entry messages entry other (All-head (IsEntryOf messages) entry entries each)
    (All-head (IsEntryOf messages) other others every) first in
    ap (λ e. e ∷ entries) same
    ∙ ap (λ l. other ∷ l) (same_entries messages entries others (All-tail (IsEntryOf messages) entry entries each)
    (All-tail (IsEntryOf messages) other others every) rest)

entry_number_came : (messages : List Message) (entry : Entry) → IsEntryOf messages entry
    → NumberCame (entry_number entry) (map number_of messages)
entry_number_came messages (Used number place payload) used =
    subst (λ n. NumberCame n (map number_of messages)) used.number_here
    (number_in messages used.message (in_at messages place used.message used.here))
entry_number_came messages (Doubtful number first second) doubtful =
    subst (λ n. NumberCame n (map number_of messages)) doubtful.one_number
    (number_in messages doubtful.one (in_at messages first doubtful.one doubtful.one_here))

numbers_came : (messages : List Message) (entries : List Entry) → All (IsEntryOf messages) entries → (number : ℕ)
    → NumberCame number (map entry_number entries) → NumberCame number (map number_of messages)
numbers_came messages [] each number there = absurd there
numbers_came messages (entry ∷ entries) each number (inl is) =
    subst (λ n. NumberCame n (map number_of messages)) (sym is)
    (entry_number_came messages entry (All-head (IsEntryOf messages) entry entries each))
numbers_came messages (entry ∷ entries) each number (inr there) =
    numbers_came messages entries (All-tail (IsEntryOf messages) entry entries each) number there

numbers_have : (messages : List Message) (entries : List Entry) → AreEntries messages entries → (number : ℕ)
    → NumberCame number (map number_of messages) → NumberCame number (map entry_number entries)
numbers_have messages entries are number there =
    let found = message_with messages number there in
    let contained = All-contains (λ (m : Message). Contains (map entry_number entries) m.number) messages found.0
    are.none_left_out (contains_of_in messages found.0 found.1) in
    subst (λ n. NumberCame n (map entry_number entries)) (sym found.2)
    (came_of_contains (map entry_number entries) found.0.number contained)

pub entries_once : (messages : List Message) (entries others : List Entry) → AreEntries messages entries
    → AreEntries messages others → entries ≡ others
entries_once messages entries others are too =
    same_entries messages entries others are.each too.each
    (rising_same 0 (map entry_number entries) (map entry_number others) are.rising too.rising
    (λ number there. numbers_have messages others too number (numbers_came messages entries are.each number there))
    (λ number there. numbers_have messages entries are number (numbers_came messages others too.each number there)))
