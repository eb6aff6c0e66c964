-- What the dump of a capture finds.
use Rattle.std.specs.Prelude.{ℕ, ◌≡◌, ◌++◌, All, Bool, false, List, [], Option, Some, None, Result, codes, length}
use Rattle.std.specs.Fmt.{decimal}
use Rattle.std.specs.Io.KnownBytes.{Appends}
use Rattle.std.specs.List.{flat_map, list_any}
use Rattle.std.specs.Result.{is_err}
use Rattle.output.specs.Begun.{AppendsBeginning}
use Rattle.message.specs.Range.{every_hart, selected}
use Rattle.message.specs.declared.range.HartRange.{HartRange}
use Rattle.payload.specs.Reading.{reading}
use Rattle.payload.specs.declared.fault.PackFault.{PackFault}
use Rattle.payload.specs.declared.mode.Mode.{Mode}
use Rattle.payload.specs.declared.mode.Mode.TheVariants.{Differential, Full}
use Rattle.payload.specs.declared.packet.Packet.{Packet}
use Rattle.message.specs.Capture.{capture}
use Rattle.message.specs.Cut.{IsMessage}
use Rattle.message.specs.Header.{IsHeader, IsMarked, header_bytes}
use Rattle.message.specs.declared.header.Header.{Header}
use Rattle.message.specs.declared.message.Message.{Message}
use Rattle.message.specs.declared.fault.MessageFault.{MessageFault}
use Rattle.captures.specs.NoMessage.{BeginsNone, BeginsNoHeader}
use Rattle.captures.specs.PacketText.{address_name, reading_address, reading_text}

-- The payload of a message is no packet.
abbrev pub has_bad_payload : Message → Bool
has_bad_payload message = is_err (reading message.payload)

-- A dump ends at the end of the bytes; or, with this fault, after so many messages, where there is no complete message.
abbrev pub Ends : ℕ → List ℕ → Option (ℕ × MessageFault) → Type 0
Ends count rest None = rest ≡ []
Ends count rest (Some fault) = (fault.0 ≡ count) × BeginsNone rest fault.1

-- The line of a message whose payload unpacks to this, up to what its address is named: the hart's number, the
-- message's, and the text of the payload, whose address field is named by this mode.
abbrev pub line_start : Mode → Message → Result Packet PackFault → List ℕ
line_start mode message read =
    decimal message.hart ++ (codes " " ++ (decimal message.number ++ (codes " " ++ reading_text mode read)))

-- That line. It ends with the name of the address that the payload reports, if it does and symbols are given.
abbrev pub line_with : Option (List ℕ) → Mode → Message → Result Packet PackFault → List ℕ
line_with symbols mode message read =
    line_start mode message read ++ (address_name symbols (reading_address mode read) ++ codes "\n")

-- The line of a message, whose address field is named by this mode.
abbrev pub dump_line : Option (List ℕ) → Mode → Message → List ℕ
dump_line symbols mode message = line_with symbols mode message (reading message.payload)

-- The lines of messages, in order.
abbrev pub dump_text : Option (List ℕ) → Mode → List Message → List ℕ
dump_text symbols mode messages = flat_map (dump_line symbols mode) messages

-- The name of a mode.
abbrev pub mode_text : Mode → List ℕ
mode_text Differential = codes "diff"
mode_text Full = codes "full"

-- The line of a header.
abbrev pub header_line : Header → List ℕ
header_line header =
    codes "capture 2 mode=" ++
    (mode_text header.mode ++
    (codes " period=" ++ (decimal header.period ++ (codes " harts=" ++ (decimal header.harts ++ codes "\n")))))

-- The bytes are those of messages and some rest, before which the dump ends, for this fault if there is one. The text
-- is the lines of the messages of these harts, whose address fields are named by this mode, and addresses by these
-- symbols. The flag says whether a payload of theirs is bad. The fault counts the messages of all harts.
pub record AreMessagesDumped (symbols : Option (List ℕ)) (harts : HartRange) (mode : Mode) (bytes : List ℕ) (bad : Bool)
    (fault : Option (ℕ × MessageFault)) (text : List ℕ) : Type 0 where
  pub messages : List Message
  pub rest : List ℕ
  pub ranges : All IsMessage messages
  pub whole : bytes ≡ capture messages ++ rest
  pub flag : bad ≡ list_any has_bad_payload (selected harts messages)
  pub lines : text ≡ dump_text symbols mode (selected harts messages)
  pub ends : Ends (length messages) rest fault

-- The text is the dump of what a capture has of these harts, with names by these symbols, if they are given. Bytes of
-- version 1, which do not begin with the mark, are messages, whose address fields are named as differences. Bytes of
-- version 2 are a header, which has a line of its own, and messages, whose address fields are named by the header's
-- mode. Where the header is cut short or bad, there is no line.
pub data IsDumpOf (symbols : Option (List ℕ)) (harts : HartRange) (bytes : List ℕ) (bad : Bool)
    (fault : Option (ℕ × MessageFault)) (text : List ℕ) : Type 0 where
  Version1 : ¬ IsMarked bytes → AreMessagesDumped symbols harts Differential bytes bad fault text
      → IsDumpOf symbols harts bytes bad fault text
  Version2 : (header : Header) (rest lines : List ℕ) → IsHeader header → bytes ≡ header_bytes header ++ rest
      → AreMessagesDumped symbols harts header.mode rest bad fault lines → text ≡ header_line header ++ lines
      → IsDumpOf symbols harts bytes bad fault text
  NoHeader : (why : MessageFault) → BeginsNoHeader bytes why → fault ≡ Some (0, why) → bad ≡ false → text ≡ []
      → IsDumpOf symbols harts bytes bad fault text

-- The text is the dump of a capture, which is that of all harts without symbols.
abbrev pub IsDump : List ℕ → Bool → Option (ℕ × MessageFault) → List ℕ → Type 0
IsDump bytes = IsDumpOf None every_hart bytes

-- A text was appended. By this relation it is a dump with this flag and this fault.
pub record AppendsDump (IsText : Bool → Option (ℕ × MessageFault) → List ℕ → Type 0) (bad : Bool)
    (fault : Option (ℕ × MessageFault)) (old new : Option (List ℕ)) : Type 0 where
  pub text : List ℕ
  pub dumped : IsText bad fault text
  pub appended : Appends old new text

-- A beginning of a text was appended that is a dump by the relation `IsText`.
pub record BeginsDump (IsText : Bool → Option (ℕ × MessageFault) → List ℕ → Type 0) (old new : Option (List ℕ))
    : Type 0 where
  pub text : List ℕ
  pub bad : Bool
  pub fault : Option (ℕ × MessageFault)
  pub dumped : IsText bad fault text
  pub begun : AppendsBeginning text old new
