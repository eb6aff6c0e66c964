-- How the bytes of RECEIVED are read, which may be damaged: by the rules of an audit, and by what is in view.
use Rattle.std.specs.Prelude.{ℕ, ◌+◌, ◌-◌, ◌==◌, ◌&&◌, ◌||◌, ◌++◌, nat_lt, Bool, true, false, if◌then◌else◌, List, [], ◌∷◌}
use Rattle.std.specs.Prelude.{Option, Some, None, drop, slice_get, take}
use Prim.Native.Nat.{zero, suc}
use Rattle.frames.specs.Frame.{frame_in, frame_size, is_complete}
use Rattle.frames.specs.GuidedTaken.{Sees, after, goes_on, is_counted_at, is_sent_at}
use Rattle.frames.specs.declared.sent.Sight.{Sight}
use Rattle.frames.specs.declared.sent.Sight.TheVariants as sight
use Rattle.frames.specs.declared.span.Span.{Span}
use Rattle.frames.specs.declared.span.Span.TheVariants as span
use Rattle.message.specs.declared.message.Message.{Message}
use Rattle.payload.specs.Same.{same}
use Rattle.payload.specs.declared.by.By.{By}
use Rattle.live.specs.Live.{are_near}
use Rattle.live.specs.View.{in_view, standing_of}
use Rattle.live.specs.declared.received_seen.Seen.{Seen}
use Rattle.live.specs.declared.received_seen.Seen.TheVariants as seen
use Rattle.live.specs.declared.standing.Standing.{Standing}
use Rattle.live.specs.declared.standing.Standing.TheVariants as standing

-- What is seen of a message in view, beside SENT's message at its place.
abbrev pub seen_beside : By → Message → Option Message → Seen
seen_beside how message None = seen.Neither
seen_beside how message (Some sent) = if same how sent.payload message.payload then seen.True else seen.Numbered

-- What is seen of a message, by where it is among the messages in view.
abbrev pub seen_at : By → List Message → Message → Standing → Seen
seen_at how view message standing.Below = seen.Neither
seen_at how view message standing.Beyond = seen.Beyond
seen_at how view message (standing.At place) = seen_beside how message (slice_get view place)

-- What is seen of a message before it is taken, where so many harts are known.
abbrev pub seen_of : By → ℕ → ℕ → List Message → ℕ → Message → Seen
seen_of how harts window sent front message =
    if nat_lt message.hart harts
    then seen_at how (in_view window sent front) message (standing_of window sent front message.hart message.number)
    else seen.Neither

-- What RECEIVED is read by: what is seen of each message, the window, and how many harts are known.
pub record Rule : Type 0 where
  pub sees : Message → Seen
  pub window : ℕ
  pub harts : ℕ

-- The same for the rules of an audit: a message in view was sent, if it is true, and else its hart and number were.
abbrev pub sight_of : Seen → Sight
sight_of seen.True = sight.Same
sight_of seen.Numbered = sight.Numbered
sight_of other = sight.Strange

abbrev pub sights : Rule → Sees
sights rule message = sight_of (rule.sees message)

-- The complete messages that follow one another. So many bytes in front belong to one before them.
abbrev pub messages_after : ℕ → List ℕ → List Message
messages_after within [] = []
messages_after (suc within) (b ∷ bytes) = messages_after within bytes
messages_after zero (b ∷ bytes) =
    if is_complete (b ∷ bytes) then frame_in (b ∷ bytes) ∷ messages_after (frame_size (b ∷ bytes) - 1) bytes else []

-- The complete messages that follow one another from the first byte on.
abbrev pub messages_from : List ℕ → List Message
messages_from bytes = messages_after zero bytes

-- The number of the first of these messages that is of this hart, if one is.
abbrev pub number_among : List Message → ℕ → Option ℕ
number_among [] hart = None
number_among (message ∷ messages) hart = if message.hart == hart then Some message.number else number_among messages hart

-- A message is beyond the view.
abbrev pub is_seen_beyond : Seen → Bool
is_seen_beyond seen.Beyond = true
is_seen_beyond other = false

-- A row ends with a message whose hart has one before it in the row: it is one if their numbers are near. Else it goes on.
abbrev pub ends_or_goes_on : ℕ → ℕ → Option ℕ → Bool → Bool
ends_or_goes_on window number None more = more
ends_or_goes_on window number (Some before) more = are_near window number before

-- These messages go on with a row, after those that are in it so far: each is beyond the view, up to the second one of a
-- hart, which is near the first.
abbrev pub is_row : Rule → List Message → List Message → Bool
is_row rule before [] = false
is_row rule before (message ∷ messages) =
    is_seen_beyond (rule.sees message)
    && ends_or_goes_on rule.window message.number (number_among before message.hart)
    (is_row rule (before ++ message ∷ []) messages)

-- A row begins the bytes. It is looked for in as many messages as harts are known, and one: of more one hart has two.
abbrev pub begins_row : Rule → List ℕ → Bool
begins_row rule bytes = is_row rule [] (take (rule.harts + 1) (messages_from bytes))

-- A message begins the bytes that is taken wherever it is: it is true, or a row begins with it.
abbrev pub is_taken_anywhere : Rule → List ℕ → Bool
is_taken_anywhere rule bytes = is_sent_at (sights rule) bytes || begins_row rule bytes

-- Bytes go on as they do after a message: they end, or a complete message begins them which is in view, or after which they
-- end or another one begins.
abbrev pub are_next : Rule → List ℕ → Bool
are_next rule bytes = goes_on bytes || is_counted_at (sights rule) bytes

-- A complete message begins the bytes, and it is kept before what follows it.
abbrev pub is_kept : Rule → List ℕ → Bool
is_kept rule bytes = is_complete bytes && are_next rule (after bytes)

-- A message is taken. Inside a run of bytes only one is that is taken anywhere.
abbrev pub is_taken : Rule → Bool → List ℕ → Bool
is_taken rule false bytes = is_taken_anywhere rule bytes || is_kept rule bytes
is_taken rule true bytes = is_taken_anywhere rule bytes

-- How many bytes there are up to the next message that is taken anywhere, or to the end.
abbrev pub bytes_to_next : Rule → List ℕ → ℕ
bytes_to_next rule [] = 0
bytes_to_next rule (b ∷ bytes) = if is_taken rule true (b ∷ bytes) then 0 else bytes_to_next rule bytes + 1

-- What is at the place of the first of these bytes, if there is one, which has this offset: the message that begins them, if
-- it is taken; or the bytes up to the next that is taken anywhere.
abbrev pub span_at : Rule → ℕ → List ℕ → Span
span_at rule offset bytes =
    if is_taken rule false bytes then span.Frame offset (frame_in bytes) else
    span.Bytes offset (bytes_to_next rule (drop 1 bytes) + 1)

-- The same, if there is one. Nothing is at the end.
abbrev pub first_span : Rule → ℕ → List ℕ → Option Span
first_span rule offset [] = None
first_span rule offset (b ∷ bytes) = Some (span_at rule offset (b ∷ bytes))
