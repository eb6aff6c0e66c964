-- Messages and headers as C has them.
use Rattle.std.specs.Prelude.{ℕ, ◌≡◌, ◌++◌, List, [], drop, length, replicate}
use Rattle.captures.specs.NoMessage.{BeginsNone, BeginsNoHeader}
use Rattle.message.specs.Capture.{message_bytes}
use Rattle.message.specs.Cut.{IsMessage}
use Rattle.message.specs.Header.{IsHeader, IsMarked, header_bytes}
use Rattle.message.specs.declared.fault.MessageFault.{MessageFault}
use Rattle.message.specs.declared.header.Header.{Header}
use Rattle.message.specs.declared.message.Message.{Message}
use Rattle.payload.specs.Limits.{most_bytes}
use Rattle.ffi.specs.Numbers.{number_of_mode}
use Rattle.ffi.specs.Statuses.{message_status}
use Rattle.ffi.specs.declared.headers.HeaderNumbers.{HeaderNumbers}
use Rattle.ffi.specs.declared.messages.MessageNumbers.{MessageNumbers}
use Rattle.ffi.specs.declared.status.TheConstants.{DONE}

-- The bytes of a payload, and then 0 up to 18 bytes.
abbrev pub padded : List ℕ → List ℕ
padded payload = payload ++ drop (length payload) (replicate most_bytes 0)

-- A message in numbers.
abbrev pub numbers_of_message : Message → MessageNumbers
numbers_of_message message = record {
  number = message.number;
  payload_length = length message.payload;
  hart = message.hart;
  payload = padded message.payload;
}

-- A header in numbers.
abbrev pub numbers_of_header : Header → HeaderNumbers
numbers_of_header header = record {
  mode = number_of_mode header.mode;
  period = header.period;
  harts = header.harts;
}

-- The bytes begin with a message, whose numbers were written; or there is no byte, or no complete message, for the
-- reason that the status says, and no number was written. So many bytes are the message's.
pub data IsMessageRead (bytes : List ℕ) (status taken : ℕ) (old new : MessageNumbers) : Type 0 where
  Read : (message : Message) (rest : List ℕ) → IsMessage message → bytes ≡ message_bytes message ++ rest
      → taken ≡ length (message_bytes message) → new ≡ numbers_of_message message → status ≡ DONE
      → IsMessageRead bytes status taken old new
  AtEnd : bytes ≡ [] → taken ≡ 0 → new ≡ old → status ≡ DONE → IsMessageRead bytes status taken old new
  Refused : (why : MessageFault) → BeginsNone bytes why → taken ≡ 0 → new ≡ old → status ≡ message_status why
      → IsMessageRead bytes status taken old new

-- The bytes begin with a header, whose numbers were written; or they do not begin as a capture of version 2 does, or
-- they do and their header is not valid, for the reason that the status says, and no number was written. So many bytes
-- are the header's.
pub data IsHeaderRead (bytes : List ℕ) (status taken : ℕ) (old new : HeaderNumbers) : Type 0 where
  HeaderRead : (header : Header) (rest : List ℕ) → IsHeader header → bytes ≡ header_bytes header ++ rest
      → taken ≡ length (header_bytes header) → new ≡ numbers_of_header header → status ≡ DONE
      → IsHeaderRead bytes status taken old new
  Unmarked : ¬ IsMarked bytes → taken ≡ 0 → new ≡ old → status ≡ DONE → IsHeaderRead bytes status taken old new
  HeaderRefused : (why : MessageFault) → BeginsNoHeader bytes why → taken ≡ 0 → new ≡ old → status ≡ message_status why
      → IsHeaderRead bytes status taken old new
