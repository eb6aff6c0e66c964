-- What `decode --lossy` and `salvage` read and keep of the same capture.
use Rattle.std.specs.Prelude.{ℕ, ◌≡◌, ◌≤◌, ◌<◌, All, false, List, Option, Some, None, Ok, length}
use Rattle.std.specs.List.{list_any}
use Rattle.std.specs.declared.alloc.Global.{Global}
use Rattle.captures.specs.Whole.{IsWhole}
use Rattle.frames.specs.Frame.{end_of_frames}
use Rattle.losses.specs.declared.part.HartPieces.{HartPieces}
use Rattle.message.specs.Version.{most_harts}
use Rattle.message.specs.declared.fault.MessageFault.{MessageFault}
use Rattle.message.specs.declared.header.Header.{Header}
use Rattle.message.specs.declared.header.Version.TheVariants.{Two}
use Rattle.message.specs.declared.message.Message.{Message}
use Rattle.salvaging.specs.LossyParts.{AreCollectedToo}
use Rattle.salvaging.specs.declared.salvaged.Salvaged.{Salvaged}
use Rattle.frames.specs.Start.{IsStart, known_harts, spans_of}
use Rattle.salvage_reports.specs.Frames.{is_run, messages_in}
use Rattle.capture_commands.specs.Pieces.{IsReadWhole, end_of_pieces}
use Rattle.capture_commands.specs.Salvaging.{end_of_salvage}

-- The number of each message is below 2^32.
abbrev pub HaveSmallNumbers : List Message → Type 0
HaveSmallNumbers messages = All (λ (message : Message). message.number < end_of_frames) messages

-- The bytes are this header, or none, and these messages. The hart of each message is below the header's count, or
-- without a header below 1,024, and its number is below 2^32.
pub record IsOfFrames (bytes : List ℕ) (header : Option Header) (messages : List Message) : Type 0 where
  pub whole : IsWhole bytes header messages
  pub harts : All (λ (message : Message). message.hart < known_harts header) messages
  pub numbers : HaveSmallNumbers messages

-- This header, or none, and these messages are what `decode --lossy` reads of a capture. They are also what `salvage`
-- reads: no fault of the header is found, the messages of the frames are these, and no byte belongs to no frame.
pub record AreReadAlike (bytes : List ℕ) (header : Option Header) (messages : List Message) : Type 0 where
  pub read : (whole : Option Header × List Message) → IsReadWhole bytes (Ok whole)
      → (whole.0 ≡ header) × (whole.1 ≡ messages)
  pub start : (found : Option Header) (why : Option MessageFault) → IsStart bytes found why
      → (found ≡ header) × (why ≡ None)
  pub frames : messages_in (spans_of header bytes) ≡ messages
  pub no_bytes : list_any is_run (spans_of header bytes) ≡ false

-- `decode --lossy` and `salvage` count the same harts. A header says how many. Without one both are asked for the same
-- count, 1,024 at most; or `salvage` is asked for none, and `decode` for one hart.
abbrev pub CountAlike : ℕ → Option ℕ → Option Header → Type 0
CountAlike harts asked (Some header) = Unit {0}
CountAlike harts (Some asked) None = (asked ≡ harts) × (harts ≤ most_harts Two)
CountAlike harts None None = harts ≡ 1

-- What is salvaged of a capture, which begins with this header or with none for this reason, is what is collected of
-- it. The harts are as many, of each the same is kept, and `salvage` ends as `decode --lossy` does.
pub record IsKeptToo (bytes : List ℕ) (header : Option Header) (why : Option MessageFault)
    (pieces : List (HartPieces Global)) (salvaged : Salvaged Global) : Type 0 where
  pub count : length salvaged.harts.items ≡ length pieces
  pub collected : AreCollectedToo pieces salvaged
  pub ended : end_of_salvage why (list_any is_run (spans_of header bytes)) salvaged ≡ end_of_pieces pieces
