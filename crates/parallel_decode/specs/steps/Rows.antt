-- How the rows of a hart are written.
use Rattle.std.specs.Prelude.{ℕ, ◌≡◌, ◌++◌, List, [], ◌∷◌, Option, Result, OnOk}
use Rattle.std.specs.List.{flat_map}
use Rattle.output.specs.Begun.{AppendsBeginning}
use Rattle.retire.specs.LogText.{event_line}
use Rattle.retire.specs.declared.event.Event.{Event}
use Rattle.retire.specs.declared.fault.WriteFault.{WriteFault}
use Rattle.rvclass.specs.Words.{Words}
use Rattle.payload.specs.declared.packet.Packet.{Packet}
use Rattle.decoder.specs.Describes.{Describes}
use Rattle.decoder.specs.DecoderStands.{DecoderStands}
use Rattle.decoder.specs.declared.decoding.Decoder.{Decoder}
use Rattle.retire.specs.Split.{Split}

-- A decoder stands for packets and events, and with this packet too some log is described.
pub record IsNextPacket (words : Words) (packet : Packet) (decoder : Decoder) : Type 0 where
  pub packets : List Packet
  pub before : List Event
  pub stands : DecoderStands words packets before decoder
  pub log : List Event
  pub described : Describes words (packets ++ packet ∷ []) log

-- The packet was decoded, and these events were added: they are the only ones. Their rows were written or are held
-- after what was held before; or writing them failed, after a prefix.
pub record AddsRows (words : Words) (packets : List Packet) (before : List Event) (packet : Packet) (decoder : Decoder)
    (ended : Result Unit WriteFault) (held room : List ℕ) (old new : Option (List ℕ)) : Type 0 where
  pub added : List Event
  pub stands : DecoderStands words (packets ++ packet ∷ []) (before ++ added) decoder
  pub only : (other : List Event) → Describes words (packets ++ packet ∷ []) other → other ≡ before ++ added
  pub rows : OnOk ended (Split old new room (held ++ flat_map event_line added))
  pub begun : AppendsBeginning (held ++ flat_map event_line added) old new
