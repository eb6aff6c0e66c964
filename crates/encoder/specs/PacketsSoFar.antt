-- The packets of a log before it is known what follows.
use Rattle.std.specs.Prelude.{ℕ, ◌&&◌, Bool, List, [], ◌∷◌, if◌then◌else◌}
use Rattle.retire.specs.Events.{is_retirement}
use Rattle.retire.specs.declared.event.Event.{Event}
use Rattle.rvclass.specs.Words.{Words}
use Rattle.payload.specs.declared.mode.Mode.{Mode}
use Rattle.payload.specs.declared.packet.Packet.{Packet}
use Rattle.payload.specs.declared.packet.Packet.TheVariants as packet
use Rattle.payload.specs.declared.packet.Support.TheVariants.{Open}
use Rattle.encoder.specs.Packets.{reports}
use Rattle.encoder.specs.Piece.{pieces}
use Rattle.encoder.specs.Rule.{is_handler}
use Rattle.encoder.specs.Spot.{Spot, spots_of}

-- The rule of the event is known whatever follows, since the event is a handler.
abbrev pub is_known : Words → Spot → Bool
is_known words spot = is_retirement spot.event && is_handler words spot.before_that spot.before spot.event

-- The last spot, if its rule is known already.
abbrev pub known : Words → Spot → List Spot
known words spot = if is_known words spot then spot ∷ [] else []

-- The spots whose rules are known: all but the last, and the last too where it is a handler.
abbrev pub decided : Words → List Spot → List Spot
decided words [] = []
decided words (spot ∷ []) = known words spot
decided words (spot ∷ next ∷ rest) = spot ∷ decided words (next ∷ rest)

-- The packets of a log before it is known what follows: Open, and the packets of the pieces among the events whose
-- rules are known. The packet of a trap that is reported with its handler is among them once the handler has come.
abbrev pub packets_so_far : Words → ℕ → Mode → List Event → List Packet
packets_so_far words period mode log =
    packet.Support (Open mode) ∷ reports mode 0 (pieces words period [] (decided words (spots_of log)))
