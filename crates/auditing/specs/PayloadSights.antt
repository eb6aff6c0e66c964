-- What is known of a message by SENT, where numbers are not looked at.
use Rattle.std.specs.Prelude.{ℕ, ◌≡◌, ◌==◌, ◌&&◌, All, Bool, true, false, List}
use Rattle.std.specs.List.{list_any}
use Rattle.std.specs.Str.{bytes_eq}
use Rattle.payload.specs.Same.{known_by}
use Rattle.payload.specs.declared.by.By.{By}
use Rattle.message.specs.declared.message.Message.{Message}
use Rattle.message.specs.Capture.{capture}
use Rattle.message.specs.Cut.{IsMessage}
use Rattle.frames.specs.Framed.{is_framed}
use Rattle.frames.specs.Passages.{spans_from}
use Rattle.frames.specs.Written.{frames_from}
use Rattle.frames.specs.declared.sent.Sight.{Sight}
use Rattle.frames.specs.declared.sent.Sight.TheVariants as sight
use Rattle.frames.specs.declared.span.Span.{Span}

-- SENT has a message of this hart with a payload that is known by these bytes.
abbrev pub has_payload : By → List Message → ℕ → List ℕ → Bool
has_payload how sent hart payload =
    list_any (λ (own : Message). (hart == own.hart) && bytes_eq payload (known_by how own.payload)) sent

-- What is known of a message, by whether RECEIVED is messages to its end, and by whether SENT has a message of its hart with
-- its payload. In the first case every message counts as sent. Else it is known if SENT has one.
abbrev pub sight_by : Bool → Bool → Sight
sight_by true has = sight.Same
sight_by false true = sight.Known
sight_by false false = sight.Strange

-- What is known of a message, as payloads are compared.
abbrev pub payload_sight : Bool → By → List Message → Message → Sight
payload_sight framed how sent message =
    sight_by framed (has_payload how sent message.hart (known_by how message.payload))

-- The messages of RECEIVED and the runs of bytes between them, by the payloads that were sent, in bytes of which the first is
-- at this offset.
abbrev pub payload_spans : By → List Message → ℕ → List ℕ → List Span
payload_spans how sent offset bytes = spans_from (payload_sight (is_framed bytes) how sent) offset bytes

-- Messages one after the other are found each at its place, and nothing else is, whatever was sent.
abbrev pub FramedAreTaken : Type 0
FramedAreTaken =
    (how : By) (sent : List Message) (offset : ℕ) (messages : List Message) → All IsMessage messages
    → payload_spans how sent offset (capture messages) ≡ frames_from offset messages

-- Harts, each with what a payload of it is known by, have this hart with these bytes.
abbrev pub has_key : ℕ → List ℕ → List (ℕ × List ℕ) → Bool
has_key hart payload keys = list_any (λ (key : ℕ × List ℕ). (hart == key.0) && bytes_eq payload key.1) keys

-- What is kept of SENT: by what payloads are compared, whether RECEIVED is messages to its end, and the harts of SENT, each
-- with what a payload of it is known by.
pub record KnownSent : Type 0 where
  pub by : By
  pub framed : Bool
  pub keys : List (ℕ × List ℕ)

-- What is known of a message by what is kept.
abbrev pub sight_kept : KnownSent → Message → Sight
sight_kept own message = sight_by own.framed (has_key message.hart (known_by own.by message.payload) own.keys)

-- This is kept of these messages of SENT. Where RECEIVED is messages to its end, their payloads are not.
pub record KeepsPayloads (framed : Bool) (how : By) (sent : List Message) (own : KnownSent) : Type 0 where
  pub by : own.by ≡ how
  pub is_framed : own.framed ≡ framed
  pub each : framed ≡ false
      → (hart : ℕ) (payload : List ℕ) → has_key hart payload own.keys ≡ has_payload how sent hart payload
