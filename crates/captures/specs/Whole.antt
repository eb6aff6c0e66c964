-- What the bytes of a capture hold, where all messages are read before one is checked.
use Rattle.std.specs.Prelude.{ℕ, ◌≡◌, ◌⊎◌, ◌++◌, All, List, [], Option, Some, None, length}
use Rattle.message.specs.Capture.{capture}
use Rattle.message.specs.Cut.{IsMessage}
use Rattle.message.specs.Header.{IsHeader, IsMarked, header_bytes}
use Rattle.message.specs.declared.fault.MessageFault.{MessageFault}
use Rattle.message.specs.declared.header.Header.{Header}
use Rattle.message.specs.declared.message.Message.{Message}
use Rattle.captures.specs.NoMessage.{BeginsNone, BeginsNoHeader}
use Rattle.captures.specs.declared.capture_reading.ReadFault.{ReadFault}
use Rattle.captures.specs.declared.capture_reading.ReadFault.TheVariants as fault

-- The bytes of a capture are a header and the rest, in version 2. In version 1 there is no header: the bytes do not
-- begin with the mark, and are all rest.
abbrev pub BeginsWith : Option Header → List ℕ → List ℕ → Type 0
BeginsWith None bytes rest = (¬ IsMarked bytes) × (bytes ≡ rest)
BeginsWith (Some header) bytes rest = IsHeader header × (bytes ≡ header_bytes header ++ rest)

-- The bytes are a header, or none, and these messages.
pub record IsWhole (bytes : List ℕ) (header : Option Header) (messages : List Message) : Type 0 where
  pub ranges : All IsMessage messages
  pub whole : BeginsWith header bytes (capture messages)

-- The bytes are a header, or none, and these messages, after which there is no complete message, for this reason.
pub record IsCutBehind (bytes : List ℕ) (header : Option Header) (messages : List Message) (why : MessageFault)
    : Type 0 where
  pub rest : List ℕ
  pub ranges : All IsMessage messages
  pub whole : BeginsWith header bytes (capture messages ++ rest)
  pub stops : BeginsNone rest why

-- The bytes begin as a capture of version 2 does, and their header is cut short or out of range: the reason says
-- which. There is no header and no message.
pub record HasNoFront (bytes : List ℕ) (header : Option Header) (messages : List Message) (why : MessageFault)
    : Type 0 where
  pub no_header : header ≡ None
  pub no_messages : messages ≡ []
  pub none : BeginsNoHeader bytes why

-- The bytes are a header, or none, and these messages, up to the end or to the first place where there is no header or
-- no complete message, for this reason.
abbrev pub IsFront : List ℕ → Option Header → List Message → Option MessageFault → Type 0
IsFront bytes header messages None = IsWhole bytes header messages
IsFront bytes header messages (Some why) =
    IsCutBehind bytes header messages why ⊎ HasNoFront bytes header messages why

-- The bytes are a header, or none, and so many messages, after which there is no complete message, for this reason.
pub record IsUnread (bytes : List ℕ) (number : ℕ) (why : MessageFault) : Type 0 where
  pub header : Option Header
  pub messages : List Message
  pub rest : List ℕ
  pub ranges : All IsMessage messages
  pub whole : BeginsWith header bytes (capture messages ++ rest)
  pub counted : number ≡ length messages
  pub stops : BeginsNone rest why

-- The bytes begin as a capture of version 2 does, and their header is cut short or out of range: the reason says
-- which. No message was read: the number is 0.
pub record IsHeaderless (bytes : List ℕ) (number : ℕ) (why : MessageFault) : Type 0 where
  pub first : number ≡ 0
  pub none : BeginsNoHeader bytes why

-- Why a capture is not read whole: at its header, or before the message with this number.
pub data StopsReading (bytes : List ℕ) (number : ℕ) (why : MessageFault) : Type 0 where
  AtHeader : IsHeaderless bytes number why → StopsReading bytes number why
  AtMessage : IsUnread bytes number why → StopsReading bytes number why

-- The fault is the one for which a capture is not read to its end, or an allocation failed.
abbrev pub IsReadFault : List ℕ → ReadFault → Type 0
IsReadFault bytes (fault.Message number why) = StopsReading bytes number why
IsReadFault bytes fault.Memory = Unit {0}
