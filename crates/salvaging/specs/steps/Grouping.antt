-- From a hart's messages, in the order of their numbers, to the entries.
use Rattle.std.specs.Prelude.{ℕ, suc, nat_lt, ◌≡◌, ◌<◌, ◌++◌, ◌==◌, ◌&&◌, All, Bool, true, false, List, [], ◌∷◌, drop}
use Rattle.std.specs.Prelude.{length, take}
use Rattle.std.specs.Str.{bytes_eq}
use Rattle.message.specs.Harts.{end_of_numbers}
use Rattle.salvaging.specs.Entries.{Entry, Used, Doubtful, entry_number}
use Rattle.salvaging.specs.declared.entry.Entry.{Entry as Held}
use Rattle.salvaging.specs.declared.entry.Entry.TheVariants as held
use Rattle.salvaging.specs.declared.received.ReceivedMessage.{ReceivedMessage}
use Rattle.salvaging.specs.steps.Arrivals.{Arrival, arrivals_in}

-- The entry that an entry of the code represents.
abbrev pub entry_of : Held → Entry
entry_of (held.Used place message) = Used message.now.number place message.now.payload
entry_of (held.Doubtful number first second) = Doubtful number first second

-- The numbers of entries are those that a hart may have.
abbrev pub AreSmall : List Entry → Type 0
AreSmall entries = All (λ entry. entry_number entry < end_of_numbers) entries

-- The entry of the first message with a number.
abbrev pub entry_by : Arrival → Entry
entry_by first = Used first.message.number first.place first.message.payload

-- The number came with two payloads, first at these two places: the lower one comes first.
abbrev pub doubtful_at : Bool → ℕ → ℕ → ℕ → Entry
doubtful_at true number place other = Doubtful number place other
doubtful_at false number place other = Doubtful number other place

-- The two lowest of three places, of which two are in order: whether the third is below the first of them, and whether
-- it is below the second.
abbrev pub doubtful_with : Bool → Bool → ℕ → ℕ → ℕ → ℕ → Entry
doubtful_with true below number first second place = Doubtful number place first
doubtful_with false true number first second place = Doubtful number first place
doubtful_with false false number first second place = Doubtful number first second

-- The entry of a number with one more payload, which came first at this place.
abbrev pub entry_apart : Entry → ℕ → Entry
entry_apart (Used number at payload) place = doubtful_at (nat_lt at place) number at place
entry_apart (Doubtful number first second) place =
    doubtful_with (nat_lt place first) (nat_lt place second) number first second place

-- The entry stays where this is true, and else there is one more payload, which came first at this place.
abbrev pub kept_or_apart : Bool → Entry → ℕ → Entry
kept_or_apart true entry place = entry
kept_or_apart false entry place = entry_apart entry place

-- The entry of a number with one more message, right after this one: it stays where the payload is the same.
abbrev pub entry_with : Entry → Arrival → Arrival → Entry
entry_with entry before next =
    kept_or_apart (bytes_eq before.message.payload next.message.payload) entry next.place

-- The entries of messages after those of one number, by whether the next one has that number: it joins them, or begins
-- the next entry.
abbrev pub join_or_begin : Bool → Entry → Arrival → Arrival → (Entry → List Entry) → List Entry
join_or_begin true entry before next Later = Later (entry_with entry before next)
join_or_begin false entry before next Later = entry ∷ Later (entry_by next)

-- The entries of messages, where this is the entry of those before them, and the last of those.
abbrev pub entries_on : Entry → Arrival → List Arrival → List Entry
entries_on entry before [] = entry ∷ []
entries_on entry before (next ∷ arrivals) =
    join_or_begin (entry_number entry == next.message.number) entry before next
    (λ later. entries_on later next arrivals)

-- The entries of messages in the order of their numbers.
abbrev pub entries_by : List Arrival → List Entry
entries_by [] = []
entries_by (first ∷ arrivals) = entries_on (entry_by first) first arrivals

-- The messages have the same number and the same payload.
abbrev pub are_alike : Arrival → Arrival → Bool
are_alike one other =
    one.message.number == other.message.number && bytes_eq one.message.payload other.message.payload

-- One more where this is true.
abbrev pub one_more : Bool → ℕ → ℕ
one_more true count = suc count
one_more false count = count

-- How many messages are alike with the one right before, where this one is before the first.
abbrev pub copies_on : Arrival → List Arrival → ℕ
copies_on before [] = 0
copies_on before (next ∷ arrivals) = one_more (are_alike before next) (copies_on next arrivals)

-- How many messages are alike with the one right before.
abbrev pub copies_by : List Arrival → ℕ
copies_by [] = 0
copies_by (first ∷ arrivals) = copies_on first arrivals

-- All of the messages have this number.
abbrev pub HaveOne : ℕ → List Arrival → Type 0
HaveOne number [] = Unit {0}
HaveOne number (one ∷ arrivals) = (one.message.number ≡ number) × HaveOne number arrivals

-- The messages are those of one number, and this is its entry.
pub record AreOfOne (group : List Arrival) (entry : Entry) : Type 0 where
  pub numbers : HaveOne (entry_number entry) group
  pub one : entries_by group ≡ entry ∷ []

-- So many messages come before those that have the last one's number: the others have one number, and the entries part
-- there.
pub record IsLastGroup (came : List ReceivedMessage) (front : ℕ) : Type 0 where
  pub number : ℕ
  pub within : front < length came
  pub have : HaveOne number (arrivals_in (drop front came))
  pub parted : entries_by (arrivals_in came)
      ≡ entries_by (arrivals_in (take front came)) ++ entries_by (arrivals_in (drop front came))
