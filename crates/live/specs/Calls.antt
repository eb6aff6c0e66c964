-- Calls that go well, one after the other.
use Rattle.std.specs.Prelude.{ℕ, ◌+◌, ◌-◌, Bool, true, false, List, [], ◌∷◌, Option, Some, None, Ok, drop}
use Prim.Native.Nat.{zero, suc}
use Rattle.frames.specs.declared.span.Span.{Span}
use Rattle.frames.specs.declared.span.Span.TheVariants as span
use Rattle.message.specs.declared.message.Message.{Message}
use Rattle.live.specs.Auditing.{Ended, LiveHolding, ReadsSent, Went}
use Rattle.live.specs.Course.{moves_near, taking_of}
use Rattle.live.specs.Following.{Audited, Left}
use Rattle.live.specs.Lines.{Line}
use Rattle.live.specs.Live.{State, taken_of}
use Rattle.live.specs.Received.{span_at}
use Rattle.live.specs.ReceivedLeft.{rule_of, size_of}

-- RECEIVED has ended: calls that read one message of SENT, each with what it returns, and then the one that ends the audit.
abbrev pub EndsBy : (X : Type 0) → (X → List Line → X → Type 0) → Audited → List Bool → ℕ → State → X → X → Type 0
EndsBy X Told all [] read state first last =
    (left : Left) × Ended {U = Unit {0}} all read (λ told. Told first told last) state (Ok tt) left
EndsBy X Told all (true ∷ calls) read state first last =
    (between : X) × (own : LiveHolding) × (left : Left)
    × ReadsSent all read (λ told. Told first told between) state (Ok true) own left
    × EndsBy X Told all calls read state between last
EndsBy X Told all (false ∷ calls) read state first last =
    (between : X) × (own : LiveHolding) × (left : Left)
    × ReadsSent all read (λ told. Told first told between) state (Ok false) own left
    × EndsBy X Told all calls (read + 1) (moves_near all (read + 1) state).state between last

-- Calls that take these messages of RECEIVED, the first of which is at this place, and then those that end the audit.
abbrev pub TakesAll : (X : Type 0) → (X → List Line → X → Type 0) → Audited → List Bool → ℕ → State → ℕ → List Message → X → X
    → Type 0
TakesAll X Told all calls read state place [] first last = EndsBy X Told all calls read state first last
TakesAll X Told all calls read state place (message ∷ messages) first last =
    (between : X) × (own : LiveHolding) × (left : Left)
    × (went : Went {U = Unit {0}} all (λ told. Told first told between) read
    (taking_of all state (record { place = place; message = message }) read) (Ok tt) own left)
    × TakesAll X Told all calls went.0
    (taken_of all.harts all.window all.sent state (record { place = place; message = message })).state (place + 1) messages
    between last

-- What a message that is taken leaves, which is at this place, and a run of bytes, which changes nothing.
abbrev pub state_after : Audited → State → ℕ → Span → State
state_after all state place (span.Frame offset message) =
    (taken_of all.harts all.window all.sent state (record { place = place; message = message })).state
state_after all state place (span.Bytes offset count) = state

-- The place of the next message.
abbrev pub place_after : ℕ → Span → ℕ
place_after place (span.Frame offset message) = place + 1
place_after place (span.Bytes offset count) = place

-- What comes first, and then what comes of the bytes after it.
abbrev pub spans_with : Audited → State → ℕ → Span → (ℕ → State → ℕ → List Span) → List Span
spans_with all state place own more =
    own ∷ more (size_of (Some own) - 1) (state_after all state place own) (place_after place own)

-- What these bytes of RECEIVED are read as, one after the other, where each message is taken before the next is read, and
-- the first byte has this offset. So many bytes in front belong to what comes before them.
abbrev pub spans_after : ℕ → Audited → State → ℕ → ℕ → List ℕ → List Span
spans_after within all state place offset [] = []
spans_after (suc within) all state place offset (b ∷ bytes) = spans_after within all state place (offset + 1) bytes
spans_after zero all state place offset (b ∷ bytes) =
    spans_with all state place (span_at (rule_of all.harts all state.front) offset (b ∷ bytes))
    (λ within next later. spans_after within all next later (offset + 1) bytes)

-- The same from the first byte on.
abbrev pub spans_from : Audited → State → ℕ → ℕ → List ℕ → List Span
spans_from all state place offset bytes = spans_after zero all state place offset bytes

-- What comes first was read, if anything did, and then what comes of the other bytes.
abbrev pub spans_next : Audited → State → ℕ → ℕ → List ℕ → Option Span → List Span
spans_next all state place offset bytes None = []
spans_next all state place offset bytes (Some own) =
    own ∷ spans_from all (state_after all state place own) (place_after place own) (offset + size_of (Some own))
    (drop (size_of (Some own)) bytes)
