-- The pieces of the first packets of a trace.
use Rattle.std.specs.Prelude.{Bool, true, false, List, [], ◌∷◌}
use Rattle.retire.specs.declared.event.Event.{Event}
use Rattle.payload.specs.declared.packet.Packet.{Packet}
use Rattle.decoder.specs.Settling.{waits}

-- The piece of a last packet: empty where the packet waits, and else this one.
abbrev pub piece_unless : Bool → List Event → List Event
piece_unless true piece = []
piece_unless false piece = piece

-- The pieces of these packets where no more packets follow, from the pieces that they have where more follow. Where the
-- last packet waits, its piece is empty.
abbrev pub settled_pieces : List Packet → List (List Event) → List (List Event)
settled_pieces [] pieces = []
settled_pieces (packet ∷ packets) [] = []
settled_pieces (packet ∷ []) (piece ∷ pieces) = piece_unless (waits packet) piece ∷ []
settled_pieces (packet ∷ next ∷ packets) (piece ∷ pieces) = piece ∷ settled_pieces (next ∷ packets) pieces
