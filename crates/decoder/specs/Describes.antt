-- Which logs a list of packets describes.
use Rattle.std.specs.Prelude.{◌≡◌, List, None}
use Rattle.retire.specs.declared.event.Event.{Event}
use Rattle.rvclass.specs.Words.{Words}
use Rattle.legalpath.specs.Join.{join}
use Rattle.legalpath.specs.Legal.{Legal}
use Rattle.payload.specs.declared.packet.Packet.{Packet}
use Rattle.decoder.specs.ModeOf.{mode_of}
use Rattle.decoder.specs.Order.{Begins}
use Rattle.decoder.specs.Pieces.{Pieces}

-- The packets describe the log. The first of them opens the trace and announces its mode. The log is legal, and it is
-- the pieces of the packets joined, one piece for each packet.
pub record Describes (words : Words) (packets : List Packet) (log : List Event) : Type 0 where
  pub begins : Begins packets
  pub pieces : List (List Event)
  pub whole : log ≡ join pieces
  pub legal : Legal words log
  pub each : Pieces words (mode_of packets) None 0 packets None pieces
