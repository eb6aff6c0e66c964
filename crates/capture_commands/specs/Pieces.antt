-- What `decode` prints where messages may be lost, and how it ends.
use Rattle.std.specs.Prelude.{◌≡◌, ℕ, ◌++◌, Bool, true, false, codes, List, Option, Some, None, Result, Ok, Err, length}
use Rattle.std.specs.Prelude.{map}
use Rattle.std.specs.Fmt.{decimal}
use Rattle.std.specs.List.{flat_map, list_any}
use Rattle.std.specs.declared.alloc.Global.{Global}
use Rattle.captures.specs.Whole.{IsReadFault, IsWhole}
use Rattle.captures.specs.declared.capture_reading.ReadFault.{ReadFault}
use Rattle.message.specs.Range.{every_hart, selected}
use Rattle.message.specs.declared.range.HartRange.{HartRange}
use Rattle.losses.specs.Collects.{GivesFault, GivesPieces}
use Rattle.losses.specs.Parts.{LogPart, Events, Missing}
use Rattle.losses.specs.PartsIn.{parts_in}
use Rattle.losses.specs.declared.fault.LossyFault.{LossyFault}
use Rattle.losses.specs.declared.part.HartPieces.{HartPieces}
use Rattle.message.specs.declared.header.Header.{Header}
use Rattle.message.specs.declared.message.Message.{Message}
use Rattle.retire.specs.LogText.{log_text}
use Rattle.rvclass.specs.Image.{Image}
use Rattle.command_inputs.specs.Printed.{First}
use Rattle.capture_commands.specs.Faults.{Fault, Printed, lossy_fault, reading_fault}
use Rattle.command_inputs.specs.declared.status.Status.{Status}
use Rattle.command_inputs.specs.declared.status.Status.TheVariants.{NotWhole}
use Rattle.capture_commands.specs.Decoding.{end_of_harts}
use Rattle.salvage_reports.specs.HartItems.{items_of}
use Rattle.salvage_reports.specs.MessagesLine.{messages_line}
use Rattle.frames.specs.Search.{mode_of}
use Rattle.capture_commands.specs.Placed.{placed_fault}
use Rattle.parallel_decode.specs.EachHart.{each_hart}

-- The line of a gap, with how many numbers are missing; or the line of a stretch, with how many events it has, and the
-- text of their log.
abbrev pub part_text : LogPart → List ℕ
part_text (Missing count) = messages_line (codes "gap") count
part_text (Events events) = (codes "stretch: " ++ (decimal (length events) ++ codes " events\n")) ++ log_text events

-- The texts of the parts of a hart's log, in order.
abbrev pub parts_text : List LogPart → List ℕ
parts_text parts = flat_map part_text parts

-- The parts of each hart's log.
abbrev pub parts_of : List (HartPieces Global) → List (List LogPart)
parts_of pieces = map (λ (own : HartPieces Global). parts_in own.parts.items) pieces

-- Whether each hart is closed.
abbrev pub closed_of : List (HartPieces Global) → List Bool
closed_of pieces = map (λ (own : HartPieces Global). own.closed) pieces

-- The part is a gap, in which numbers are missing.
abbrev pub is_gap : LogPart → Bool
is_gap (Missing count) = true
is_gap (Events events) = false

-- Some hart's log has a gap.
abbrev pub have_gaps : List (List LogPart) → Bool
have_gaps harts = list_any (list_any is_gap) harts

-- A fault stays the end. Without one, all is done only where there are no gaps or other losses.
abbrev pub end_with_gaps : Bool → Result Status Fault → Result Status Fault
end_with_gaps gaps (Err why) = Err why
end_with_gaps true (Ok status) = Ok NotWhole
end_with_gaps false (Ok status) = Ok status

-- The fault names the first hart that is not closed, of these harts, from this one on. Where all are closed, the end is
-- by whether there are gaps.
abbrev pub end_of_pieces_from : ℕ → List (HartPieces Global) → Result Status Fault
end_of_pieces_from first pieces = end_with_gaps (have_gaps (parts_of pieces)) (end_of_harts first (closed_of pieces))

-- The end by the pieces of all harts.
abbrev pub end_of_pieces : List (HartPieces Global) → Result Status Fault
end_of_pieces pieces = end_of_pieces_from 0 pieces

-- The count of harts: the header's, or without a header this one.
abbrev pub harts_counted : ℕ → Option Header → ℕ
harts_counted harts None = harts
harts_counted harts (Some header) = header.harts

-- A capture's header, if it has one, and all its messages are found, or why it is not read to its end.
abbrev pub IsReadWhole : List ℕ → Result (Option Header × List Message) ReadFault → Type 0
IsReadWhole bytes (Ok whole) = IsWhole bytes whole.0 whole.1
IsReadWhole bytes (Err why) = IsReadFault bytes why

-- What is left of the logs is collected from the header and the messages of these harts, or collecting ends at a fault,
-- which names a message by its place among all. Where the capture was not read to its end, its fault stays.
abbrev pub AreCollectedFrom : ℕ → HartRange → Image → Result (Option Header × List Message) ReadFault
    → Result (List (HartPieces Global)) Fault → Type 0
AreCollectedFrom harts only program (Err why) found = found ≡ Err (reading_fault why)
AreCollectedFrom harts only program (Ok whole) (Ok pieces) =
    GivesPieces program (harts_counted harts whole.0) (mode_of whole.0) (selected only whole.1) pieces
AreCollectedFrom harts only program (Ok whole) (Err why) =
    (fault : LossyFault) × (why ≡ lossy_fault (placed_fault only whole.1 fault))
    × GivesFault program (harts_counted harts whole.0) (mode_of whole.0) (selected only whole.1) fault

-- What the messages of these harts leave of the logs of a capture's harts is found, or the first fault. All messages
-- are read before any is checked.
pub record ArePiecesOf (harts : ℕ) (only : HartRange) (program : Image) (bytes : List ℕ)
    (found : Result (List (HartPieces Global)) Fault) : Type 0 where
  pub whole : Result (Option Header × List Message) ReadFault
  pub read : IsReadWhole bytes whole
  pub collected : AreCollectedFrom harts only program whole found

-- What the messages of all harts leave.
abbrev pub ArePieces : ℕ → Image → List ℕ → Result (List (HartPieces Global)) Fault → Type 0
ArePieces harts program bytes found = ArePiecesOf harts every_hart program bytes found

-- What is left of the logs is found, with no fault.
pub record HasPieces (harts : ℕ) (only : HartRange) (program : Image) (bytes : List ℕ) : Type 0 where
  pub pieces : List (HartPieces Global)
  pub found : ArePiecesOf harts only program bytes (Ok pieces)

-- For each of these harts its line and the texts of its log's parts are written. The run ends by which of them are
-- closed and by whether there are gaps.
pub record WritesParts (only : HartRange) (pieces : List (HartPieces Global)) (printed : Printed) : Type 0 where
  pub text : printed.text ≡ each_hart parts_text only.first (parts_of (items_of only pieces))
  pub ended : printed.ended ≡ end_of_pieces_from only.first (items_of only pieces)

-- What is left of the logs is found first. Where there is no fault, its parts are written, of these harts alone.
abbrev pub WritesPieces : ℕ → HartRange → Image → List ℕ → Printed → Type 0
WritesPieces harts only program bytes = First (ArePiecesOf harts only program bytes) (WritesParts only)
