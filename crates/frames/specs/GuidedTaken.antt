-- Which messages are taken among the bytes that came.
use Rattle.std.specs.Prelude.{ℕ, ◌≡◌, ◌&&◌, ◌||◌, not, Bool, true, false, List, [], ◌∷◌, drop}
use Rattle.frames.specs.Frame.{frame_in, frame_size, is_complete}
use Rattle.frames.specs.Taken.{has_firm_inside, is_sure}
use Rattle.message.specs.declared.message.Message.{Message}
use Rattle.frames.specs.declared.sent.Sight.{Sight}
use Rattle.frames.specs.declared.sent.Sight.TheVariants.{Same, Numbered, Strange, Known}

-- What is known of each message by what was sent.
abbrev pub Sees : Type 0
Sees = Message → Sight

-- A message was sent.
abbrev pub is_same : Sight → Bool
is_same Same = true
is_same Numbered = false
is_same Strange = false
is_same Known = false

-- The hart and the number of a message were sent, or its hart and its payload.
abbrev pub is_counted : Sight → Bool
is_counted Same = true
is_counted Numbered = true
is_counted Strange = false
is_counted Known = true

-- A message is known by its hart and its payload alone.
abbrev pub is_known : Sight → Bool
is_known Same = false
is_known Numbered = false
is_known Strange = false
is_known Known = true

-- No message is known by its payload alone: numbers are looked at, or every message is taken.
abbrev pub KnowsNone : Sees → Type 0
KnowsNone sees = (message : Message) → is_known (sees message) ≡ false

-- A complete message begins the bytes, and it was sent.
abbrev pub is_sent_at : Sees → List ℕ → Bool
is_sent_at sees bytes = is_complete bytes && is_same (sees (frame_in bytes))

-- A complete message begins the bytes, and its hart and number were sent, or its hart and payload.
abbrev pub is_counted_at : Sees → List ℕ → Bool
is_counted_at sees bytes = is_complete bytes && is_counted (sees (frame_in bytes))

-- A known message begins the bytes.
abbrev pub is_known_at : Sees → List ℕ → Bool
is_known_at sees bytes = is_complete bytes && is_known (sees (frame_in bytes))

-- What follows the message that begins the bytes.
abbrev pub after : List ℕ → List ℕ
after bytes = drop (frame_size bytes) bytes

-- The bytes end, or a complete message begins them.
abbrev pub ends_or_begins : List ℕ → Bool
ends_or_begins [] = true
ends_or_begins (b ∷ bytes) = is_complete (b ∷ bytes)

-- The bytes end, or a complete message begins them after which again they end or a complete message begins.
abbrev pub goes_on : List ℕ → Bool
goes_on [] = true
goes_on (b ∷ bytes) = is_complete (b ∷ bytes) && ends_or_begins (after (b ∷ bytes))

-- A message begins the bytes that is taken wherever it is: it was sent, or it is known and sure. A known message is
-- firm where after it the bytes end or another known one begins. It is sure where it is firm, or no firm one begins
-- inside it.
abbrev pub is_taken_anywhere : Sees → List ℕ → Bool
is_taken_anywhere sees bytes = is_sent_at sees bytes || is_sure (is_known_at sees) bytes

-- The message that begins the bytes is clear: no firm known message begins inside it.
abbrev pub is_clear : Sees → List ℕ → Bool
is_clear sees bytes = not (has_firm_inside (is_known_at sees) bytes)

-- A complete message begins the bytes, and it is kept before what follows it: it is clear, and then the bytes go on, or
-- a complete message begins them whose hart and number were sent, or which is known.
abbrev pub is_kept : Sees → List ℕ → Bool
is_kept sees bytes =
    is_complete bytes && (is_clear sees bytes && (goes_on (after bytes) || is_counted_at sees (after bytes)))

-- A message begins the bytes that is taken: anywhere, or before what follows it.
abbrev pub is_taken_first : Sees → List ℕ → Bool
is_taken_first sees bytes = is_taken_anywhere sees bytes || is_kept sees bytes

-- A message is taken. Inside a run of bytes only one is that is taken anywhere.
abbrev pub is_taken : Sees → Bool → List ℕ → Bool
is_taken sees false bytes = is_taken_first sees bytes
is_taken sees true bytes = is_taken_anywhere sees bytes
