-- What is left of a log where only some of its packets came.
use Rattle.std.specs.Prelude.{ℕ, zero, suc, Bool, true, false, List, [], ◌∷◌, ◌++◌, drop, take}
use Rattle.retire.specs.declared.event.Event.{Event}
use Rattle.rvclass.specs.Words.{Words}
use Rattle.legalpath.specs.Join.{join}
use Rattle.payload.specs.declared.mode.Mode.{Mode}
use Rattle.payload.specs.declared.packet.Packet.{Packet}
use Rattle.payload.specs.declared.packet.Packet.TheVariants as packet
use Rattle.payload.specs.declared.packet.Support.TheVariants as support
use Rattle.encoder.specs.Packets.{packets}
use Rattle.decoder.specs.SettledPieces.{settled_pieces}
use Rattle.roundtrip.specs.Reach.{stretches}
use Rattle.losses.specs.Blocks.{Block, blocks}

-- A part of what is left of a log. It is a stretch, which is events that follow one another in the log, or a gap, which
-- is how many numbers of packets are missing.
pub data LogPart : Type 0 where
  Events : List Event → LogPart
  Missing : ℕ → LogPart

-- A stretch begins at this packet: it opens the trace, or it is a synchronisation packet.
abbrev pub begins_stretch : Packet → Bool
begins_stretch (packet.Sync taken priv address) = true
begins_stretch (packet.Support (support.Open mode)) = true
begins_stretch other = false

-- What begins here, where this is true, and else what begins later.
abbrev pub here_or_later : {X : Type 0} → Bool → X → X → X
here_or_later true here later = here
here_or_later false here later = later

-- The stretch of packets with consecutive numbers, where the pieces are the events that each reports in the log. It has
-- the events of the settled pieces from the first packet on that begins a stretch. It has no event where no packet
-- begins one.
abbrev pub stretch_of : List Packet → List (List Event) → List Event
stretch_of [] pieces = []
stretch_of (packet ∷ packets) [] = []
stretch_of (packet ∷ packets) (piece ∷ pieces) =
    here_or_later (begins_stretch packet) (join (settled_pieces (packet ∷ packets) (piece ∷ pieces)))
    (stretch_of packets pieces)

-- A gap of this many numbers, as a list of parts; no part where none is missing.
abbrev pub gap : ℕ → List LogPart
gap zero = []
gap (suc missing) = Missing (suc missing) ∷ []

-- A stretch of these events, as a list of parts; no part where there is no event.
abbrev pub stretch : List Event → List LogPart
stretch [] = []
stretch (event ∷ events) = Events (event ∷ events) ∷ []

-- The stretch of a block: that of the packets which have its numbers among all packets of a log, with the events that
-- each reports.
abbrev pub stretch_of_block : List Packet → List (List Event) → Block → List Event
stretch_of_block packets pieces block = stretch_of (take block.count (drop block.first packets)) (drop block.first
    pieces)

-- The parts of blocks, one block after the other: the gap before a block, and then the block's stretch.
abbrev pub parts_of_blocks : List Packet → List (List Event) → List Block → List LogPart
parts_of_blocks packets pieces [] = []
parts_of_blocks packets pieces (block ∷ blocks) =
    gap block.missing ++ (stretch (stretch_of_block packets pieces block) ++ parts_of_blocks packets pieces blocks)

-- The parts of a log, where the packets with these numbers came. The numbers rise.
abbrev pub parts : Words → ℕ → Mode → List Event → List ℕ → List LogPart
parts words period mode log numbers =
    parts_of_blocks (packets words period mode log) (stretches words period log) (blocks numbers)
