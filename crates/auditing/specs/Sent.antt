-- What SENT has to be.
use Rattle.std.specs.Prelude.{ℕ, ◌≡◌, ◌⊎◌, ◌+◌, ◌++◌, nat_lt, All, if◌then◌else◌, List, [], ◌∷◌, Option, Some, None, length}
use Rattle.std.specs.Prelude.{max}
use Rattle.message.specs.Capture.{capture, message_bytes}
use Rattle.message.specs.Cut.{IsMessage}
use Rattle.message.specs.OfHart.{of_hart}
use Rattle.message.specs.declared.fault.DemuxFault.{DemuxFault}
use Rattle.message.specs.declared.fault.DemuxFault.TheVariants as demux
use Rattle.message.specs.declared.header.Header.{Header}
use Rattle.message.specs.declared.message.Message.{Message}
use Rattle.captures.specs.NoMessage.{BeginsNone}
use Rattle.captures.specs.Whole.{BeginsWith, IsHeaderless, IsWhole}
pub use Rattle.frames.specs.Start.{known_harts}
use Rattle.auditing.specs.declared.fault.SentFault.{SentFault}
use Rattle.auditing.specs.declared.fault.SentFault.TheVariants as fault

-- The next number of a hart after these messages, if the hart is one of so many.
abbrev pub next_number : ℕ → List Message → ℕ → Option ℕ
next_number harts before hart = if nat_lt hart harts then Some (length (of_hart hart before)) else None

-- Why a message with the second number is not the next one of its hart, where the first number comes next.
abbrev pub misplaced_at : Option ℕ → ℕ → Option DemuxFault
misplaced_at None number = Some demux.Stranger
misplaced_at (Some next) number =
    if nat_lt number next then Some demux.Repeat else
    if nat_lt next number then Some (demux.Gap next) else
    None

-- Why a message after these is not the next one of its hart, if it is not.
abbrev pub misplaced : ℕ → List Message → Message → Option DemuxFault
misplaced harts before message = misplaced_at (next_number harts before message.hart) message.number

-- Each of the messages after these is the next one of its hart.
abbrev pub AreInTurn : ℕ → List Message → List Message → Type 0
AreInTurn harts before [] = Unit {0}
AreInTurn harts before (message ∷ messages) =
    (misplaced harts before message ≡ None) × AreInTurn harts (before ++ message ∷ []) messages

-- The number of harts from 0 to the highest that has a message.
abbrev pub harts_in : List Message → ℕ
harts_in [] = 0
harts_in (message ∷ messages) = max (message.hart + 1) (harts_in messages)

-- The number of harts of SENT: as many as its header counts, or without a header those up to the highest that has a
-- message.
abbrev pub harts_of : Option Header → List Message → ℕ
harts_of None messages = harts_in messages
harts_of (Some header) messages = header.harts

-- The bytes are a header, or none, and messages, each of which is the next one of its hart.
pub record IsSent (bytes : List ℕ) (header : Option Header) (messages : List Message) : Type 0 where
  pub whole : IsWhole bytes header messages
  pub in_turn : AreInTurn (known_harts header) [] messages

-- The bytes are a header, or none, and so many messages, each of which is the next one of its hart. What follows them
-- is refused.
pub record StopsBehind (bytes : List ℕ) (number : ℕ) (Refuses : ℕ → List Message → List ℕ → Type 0) : Type 0 where
  pub header : Option Header
  pub messages : List Message
  pub rest : List ℕ
  pub ranges : All IsMessage messages
  pub whole : BeginsWith header bytes (capture messages ++ rest)
  pub in_turn : AreInTurn (known_harts header) [] messages
  pub counted : number ≡ length messages
  pub refused : Refuses (known_harts header) messages rest

-- After messages of so many harts the rest begins with a message that is not the next one of its hart.
pub record BeginsMisplaced (why : DemuxFault) (harts : ℕ) (messages : List Message) (rest : List ℕ) : Type 0 where
  pub message : Message
  pub more : List ℕ
  pub ranges : IsMessage message
  pub begins : rest ≡ message_bytes message ++ more
  pub misplaced : misplaced harts messages message ≡ Some why

-- Why SENT is refused: its header is cut short or bad; or after the first messages there is no complete message, or one
-- that is not the next of its hart; or an allocation failed.
abbrev pub IsSentFault : List ℕ → SentFault → Type 0
IsSentFault bytes (fault.Unread number why) =
    IsHeaderless bytes number why ⊎ StopsBehind bytes number (λ harts messages rest. BeginsNone rest why)
IsSentFault bytes (fault.Misplaced number why) = StopsBehind bytes number (BeginsMisplaced why)
IsSentFault bytes fault.Memory = Unit {0}
