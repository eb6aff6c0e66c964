-- Entries: what came with each number of a hart.
use Rattle.std.specs.Prelude.{ℕ, ◌≡◌, ◌≢◌, ◌<◌, All, Bool, true, false, Contains, List, [], ◌∷◌, Option, Some, None, map}
use Rattle.std.specs.Prelude.{slice_get}
use Rattle.payload.specs.Closing.{is_closing}
use Rattle.message.specs.declared.message.Message.{Message}
use Rattle.losses.specs.Apart.{AreRising}

-- What came with a number. It is used, with the place of its first message among the hart's messages and the payload;
-- or it is doubtful, since two payloads came with it, with the places of the first two messages that differ.
pub data Entry : Type 0 where
  Used : ℕ → ℕ → List ℕ → Entry
  Doubtful : ℕ → ℕ → ℕ → Entry

-- The number of an entry.
abbrev pub entry_number : Entry → ℕ
entry_number (Used number place payload) = number
entry_number (Doubtful number first second) = number

-- The entry is used.
abbrev pub is_used : Entry → Bool
is_used (Used number place payload) = true
is_used (Doubtful number first second) = false

-- Of a hart's messages, the one at this place is the first with this number, and it has this payload. Each other
-- message with the number has the same payload.
pub record IsUsed (messages : List Message) (number place : ℕ) (payload : List ℕ) : Type 0 where
  pub message : Message
  pub here : slice_get messages place ≡ Some message
  pub number_here : message.number ≡ number
  pub payload_here : message.payload ≡ payload
  pub first : (before : ℕ) (other : Message) → before < place → slice_get messages before ≡ Some other
      → other.number ≢ number
  pub alone : All (λ (other : Message). other.number ≡ number → other.payload ≡ payload) messages

-- Of a hart's messages, the one at the place `first` is the first with this number, and the one at the place `second`
-- is the first after it with the number whose payload is another.
pub record IsDoubtful (messages : List Message) (number first second : ℕ) : Type 0 where
  pub one : Message
  pub other : Message
  pub one_here : slice_get messages first ≡ Some one
  pub other_here : slice_get messages second ≡ Some other
  pub one_number : one.number ≡ number
  pub other_number : other.number ≡ number
  pub differ : one.payload ≢ other.payload
  pub one_first : (before : ℕ) (earlier : Message) → before < first → slice_get messages before ≡ Some earlier
      → earlier.number ≢ number
  pub other_first : (before : ℕ) (earlier : Message) → before < second → slice_get messages before ≡ Some earlier
      → earlier.number ≡ number → earlier.payload ≡ one.payload

-- The entry says what came with its number among a hart's messages.
abbrev pub IsEntryOf : List Message → Entry → Type 0
IsEntryOf messages (Used number place payload) = IsUsed messages number place payload
IsEntryOf messages (Doubtful number first second) = IsDoubtful messages number first second

-- The entries of a hart's messages: one for each number that came, in rising order of the numbers.
pub record AreEntries (messages : List Message) (entries : List Entry) : Type 0 where
  pub rising : AreRising 0 (map entry_number entries)
  pub each : All (IsEntryOf messages) entries
  pub none_left_out : All (λ (message : Message). Contains (map entry_number entries) message.number) messages

-- The number of the first of these entries that is used, if one is.
abbrev pub next_used : List Entry → Option ℕ
next_used [] = None
next_used (Used number place payload ∷ entries) = Some number
next_used (Doubtful number first second ∷ entries) = next_used entries

-- Whether a hart is closed after further entries, where this says whether it is before them: the last of them that is
-- used decides.
abbrev pub closed_behind : Bool → List Entry → Bool
closed_behind closed [] = closed
closed_behind closed (Used number place payload ∷ entries) = closed_behind (is_closing payload) entries
closed_behind closed (Doubtful number first second ∷ entries) = closed_behind closed entries

-- The hart with these entries is closed: the last of them that is used has a payload that closes a trace.
abbrev pub is_closed : List Entry → Bool
is_closed entries = closed_behind false entries
