-- The text of the listing of some harts of a capture, in lines or as a table.
use Rattle.std.specs.Borrow.{Bor}
use Rattle.std.specs.Prelude.{ℕ, ◌≡◌, ◌+◌, ◌++◌, All, Bool, false, List, [], Option, Some, None, length}
use Rattle.std.specs.Prelude.{option_map, replicate}
use Rattle.std.specs.Io.KnownBytes.{Appends}
use Rattle.std.specs.Option.{unwrap_or}
use Rattle.retire.specs.declared.event.Event.{Event}
use Rattle.rvclass.specs.Words.{Words}
use Rattle.payload.specs.declared.mode.Mode.{Mode}
use Rattle.payload.specs.declared.mode.Mode.TheVariants.{Differential}
use Rattle.decoder.specs.declared.fault.DecodeFault.TheVariants.{Memory}
use Rattle.message.specs.Accepted.{AreAccepted, newcomers}
use Rattle.message.specs.Capture.{capture, message_bytes}
use Rattle.message.specs.Cut.{IsMessage}
use Rattle.message.specs.Header.{IsHeader, IsMarked, header_bytes}
use Rattle.message.specs.Range.{selected}
use Rattle.message.specs.declared.fault.MessageFault.{MessageFault}
use Rattle.message.specs.declared.header.Header.{Header}
use Rattle.message.specs.declared.message.Message.{Message}
use Rattle.message.specs.declared.range.HartRange.{HartRange}
use Rattle.receiver.specs.Agreeing.{Agrees}
use Rattle.receiver.specs.Holds.{AreDecoded}
use Rattle.captures.specs.Decoded.{StopsOf}
use Rattle.captures.specs.NoMessage.{BeginsNoHeader}
use Rattle.captures.specs.declared.outcome.CaptureFault.{CaptureFault}
use Rattle.captures.specs.declared.outcome.CaptureFault.TheVariants as fault
use Rattle.listing.specs.Effect.{Effect, HaveEffects}
use Rattle.listing.specs.Entries.{incomplete_entry, placed_entries, refused_entry, start_text}
use Rattle.listing.specs.Placed.{placed_of}
use Rattle.listing.specs.declared.form.Form.{Form}
use Rattle.listing.specs.declared.input.ListInput.{ListInput}

-- The file of symbols by which places are named, if one is given.
abbrev pub names_in : {S : Type 0} → ListInput S → Option (List ℕ)
names_in input = option_map (λ (file : Bor (List ℕ)). file.now) input.symbols

-- The mode that names address fields: the one that the header announces, or differences where there is no header.
abbrev pub naming_mode : Option Mode → Mode
naming_mode announced = unwrap_or announced Differential

-- The text is the entry of the message with which the bytes begin, which is refused.
pub record IsRefusedEntry (form : Form) (mode : Mode) (at offset : ℕ) (bytes text : List ℕ) : Type 0 where
  pub message : Message
  pub behind : List ℕ
  pub ranges : IsMessage message
  pub begins : bytes ≡ message_bytes message ++ behind
  pub text_is : text ≡ refused_entry form mode at offset message

-- The entry before a fault at this place and this offset, where these bytes are: that of no complete message; none where
-- an allocation fails; and else that of the message that is refused.
abbrev pub IsFaultEntry : Form → Mode → ℕ → ℕ → List ℕ → CaptureFault → List ℕ → Type 0
IsFaultEntry form mode at offset bytes (fault.Message why) text = text ≡ incomplete_entry form at offset
IsFaultEntry form mode at offset bytes (fault.Decode Memory) text = text ≡ []
IsFaultEntry form mode at offset bytes other text = IsRefusedEntry form mode at offset bytes text

-- The entry before the place where decoding stops: none at the end of the bytes, and else the one before the fault.
abbrev pub IsLastEntry : Form → Mode → ℕ → ℕ → List ℕ → Option (ℕ × CaptureFault) → List ℕ → Type 0
IsLastEntry form mode at offset bytes None text = text ≡ []
IsLastEntry form mode at offset bytes (Some stop) text = IsFaultEntry form mode at offset bytes stop.1 text

-- The bytes are those of messages and some rest, before which the decoding of these harts stops. Messages of other harts
-- may be any. Those of these harts are accepted, one after the other, and none of them opens a trace in another mode than
-- the announced one, if one is announced. The flags say which harts these messages close. The text has the entry of each
-- message of these harts with its effect, and then the entry before the stop. The first of all messages has this offset,
-- and places are named by the symbols.
pub record AreMessagesListed (words : Words) (form : Form) (only : HartRange) (harts : ℕ) (announced : Option Mode)
    (symbols : Option (List ℕ)) (offset : ℕ) (bytes : List ℕ) (closed : List Bool) (stop : Option (ℕ × CaptureFault))
    (text : List ℕ) : Type 0 where
  pub messages : List Message
  pub rest : List ℕ
  pub ranges : All IsMessage messages
  pub whole : bytes ≡ capture messages ++ rest
  pub accepted : AreAccepted (newcomers harts) (selected only messages)
  pub agree : All (Agrees announced) (selected only messages)
  pub lists : List (List Event)
  pub decoded : AreDecoded (λ hart. words) harts (selected only messages) lists closed
  pub stops : StopsOf only words harts announced messages rest stop
  pub effects : List Effect
  pub have : HaveEffects words [] (selected only messages) effects
  pub last : List ℕ
  pub last_entry : IsLastEntry form (naming_mode announced) (length messages) (offset + length (capture messages)) rest
      stop last
  pub entries : text
      ≡ placed_entries form symbols (naming_mode announced) (placed_of only 0 offset messages) effects ++ last

-- The text is the listing of what a capture has of these harts, which decodes to these flags and stops there. Bytes of
-- version 1, which do not begin with the mark, are messages. Bytes of version 2 are a header and messages. Before the
-- messages is the header's line, or are the names of the columns, also of a table without a header. Where the header is
-- cut short or bad, there is no message, and no line.
pub data IsListing (words : Words) (form : Form) (only : HartRange) (harts : ℕ) (symbols : Option (List ℕ))
    (bytes : List ℕ) (closed : List Bool) (stop : Option (ℕ × CaptureFault)) (text : List ℕ) : Type 0 where
  Version1 : (entries : List ℕ) → ¬ IsMarked bytes
      → AreMessagesListed words form only harts None symbols 0 bytes closed stop entries
      → text ≡ start_text form None ++ entries → IsListing words form only harts symbols bytes closed stop text
  Version2 : (header : Header) (rest entries : List ℕ) → IsHeader header → bytes ≡ header_bytes header ++ rest
      → AreMessagesListed words form only header.harts (Some header.mode) symbols (length (header_bytes header)) rest
      closed stop entries → text ≡ start_text form (Some header) ++ entries
      → IsListing words form only harts symbols bytes closed stop text
  NoHeader : (why : MessageFault) → BeginsNoHeader bytes why → stop ≡ Some (0, fault.Message why)
      → closed ≡ replicate harts false → text ≡ start_text form None
      → IsListing words form only harts symbols bytes closed stop text

-- A text was appended. By this relation it is a listing with these flags and this stop.
pub record AppendsListing (IsText : List Bool → Option (ℕ × CaptureFault) → List ℕ → Type 0) (closed : List Bool)
    (stop : Option (ℕ × CaptureFault)) (old new : Option (List ℕ)) : Type 0 where
  pub text : List ℕ
  pub listed : IsText closed stop text
  pub appended : Appends old new text
