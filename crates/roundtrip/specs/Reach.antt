-- How far the first packets of a log reach.
use Rattle.std.specs.Prelude.{ℕ, List, [], ◌∷◌, length, take}
use Rattle.retire.specs.declared.event.Event.{Event}
use Rattle.rvclass.specs.Words.{Words}
use Rattle.legalpath.specs.Join.{join}
use Rattle.payload.specs.declared.mode.Mode.{Mode}
use Rattle.decoder.specs.SettledPieces.{settled_pieces}
use Rattle.encoder.specs.Packets.{packets}
use Rattle.encoder.specs.Piece.{Piece, events_of, pieces_of}

-- The events that the packets of these pieces report, a list for each packet. The closing packet comes last, with an
-- empty list.
abbrev pub stretches_of : List Piece → List (List Event)
stretches_of [] = [] ∷ []
stretches_of (piece ∷ pieces) = events_of piece ∷ stretches_of pieces

-- The events that each packet of a log reports: none for the packet that opens the trace and for the closing one.
abbrev pub stretches : Words → ℕ → List Event → List (List Event)
stretches words period log = [] ∷ stretches_of (pieces_of words period log)

-- The events that the first `count` packets of a log settle.
abbrev pub settled_events : Words → ℕ → Mode → List Event → ℕ → List Event
settled_events words period mode log count =
    join (settled_pieces (take count (packets words period mode log)) (stretches words period log))

-- How many events the first `count` packets of a log settle.
abbrev pub reach : Words → ℕ → Mode → List Event → ℕ → ℕ
reach words period mode log count = length (settled_events words period mode log count)
