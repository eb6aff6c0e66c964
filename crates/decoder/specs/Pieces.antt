-- A piece of a log for each packet.
use Rattle.std.specs.Prelude.{ℕ, List, [], ◌∷◌, Option}
use Rattle.std.specs.List.{last_or}
use Rattle.retire.specs.declared.event.Event.{Event}
use Rattle.rvclass.specs.Words.{Words}
use Rattle.legalpath.specs.LastPlace.{last_place}
use Rattle.payload.specs.declared.mode.Mode.{Mode}
use Rattle.payload.specs.declared.packet.Packet.{Packet}
use Rattle.payload.specs.declared.packet.Packet.TheVariants as packet
use Rattle.decoder.specs.Fits.{Fits}
use Rattle.decoder.specs.Order.{MayPrecede, first}

-- The last reported address after a packet with this piece: the place of the piece's last event, or the address before
-- where it has no event. A full branch map reports no address.
abbrev pub reported_after : Packet → ℕ → List Event → ℕ
reported_after (packet.Map outcomes) reported piece = reported
reported_after other reported piece = last_place reported piece

-- Each packet of a trace in this mode has its piece, in order. The first packet comes after the event `before` and the
-- last reported address `reported`. The packet `next`, if there is one, comes after the last.
abbrev pub Pieces : Words → Mode → Option Event → ℕ → List Packet → Option Packet → List (List Event) → Type 0
Pieces words mode before reported [] next [] = Unit {0}
Pieces words mode before reported [] next (piece ∷ pieces) = ⊥
Pieces words mode before reported (packet ∷ packets) next [] = ⊥
Pieces words mode before reported (packet ∷ packets) next (piece ∷ pieces) =
    MayPrecede packet (first packets next) × Fits words mode before reported packet (first packets next) piece ×
    Pieces words mode (last_or before piece) (reported_after packet reported piece) packets next pieces

-- The last reported address after these packets with these pieces, where `reported` was the last before them.
abbrev pub reported_end : ℕ → List Packet → List (List Event) → ℕ
reported_end reported [] pieces = reported
reported_end reported (packet ∷ packets) [] = reported
reported_end reported (packet ∷ packets) (piece ∷ pieces) =
    reported_end (reported_after packet reported piece) packets pieces
