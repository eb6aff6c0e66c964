-- Which packets a log gives.
use Rattle.std.specs.Prelude.{ℕ, Bool, true, false, List, [], ◌∷◌, ◌++◌, if◌then◌else◌}
use Rattle.retire.specs.Events.{place, privilege, is_taken, outcomes}
use Rattle.retire.specs.declared.event.Event.{Event}
use Rattle.retire.specs.declared.event.Event.TheVariants.{Retire, Trap}
use Rattle.rvclass.specs.Words.{Words}
use Rattle.payload.specs.AddressField.{delta}
use Rattle.payload.specs.declared.mode.Mode.{Mode}
use Rattle.payload.specs.declared.packet.Packet.{Packet}
use Rattle.payload.specs.declared.packet.Packet.TheVariants as packet
use Rattle.payload.specs.declared.packet.Report.TheVariants.{Plain, Updiscon, Notify}
use Rattle.payload.specs.declared.packet.Support.{Support}
use Rattle.payload.specs.declared.packet.Support.TheVariants.{Open, EndedRep, EndedNtr}
use Rattle.encoder.specs.Piece.{Piece, pieces_of}
use Rattle.encoder.specs.declared.rule.Rule.{Rule}
use Rattle.encoder.specs.declared.rule.Rule.TheVariants as by

-- The packet of a trap, with this branch, privilege, `thaddr` and address. In the packets of a log the event is always
-- a trap: one at the end of a piece, or one before its handler. A retirement has an equation only so that the
-- definition is total.
abbrev pub trap_packet : Event → Bool → ℕ → Bool → ℕ → Packet
trap_packet (Trap priv interrupt cause epc tval) taken level handler address =
    packet.Trap taken level cause interrupt handler address tval
trap_packet (Retire addr itype priv) taken level handler address =
    packet.Trap taken level 0 false handler address 0

-- The first of these events, or this one where there is none.
abbrev pub first_or : Event → List Event → Event
first_or event [] = event
first_or event (first ∷ events) = first

-- The packet of the events `front` and `last`, by the rule of the last, in this mode and after this last reported
-- address. It is a sync packet, a trap packet, an address packet or a branch map. An address packet has the outcomes of
-- all these events, and what its field holds for the address of the last.
abbrev pub packet_by : Mode → ℕ → List Event → Event → Rule → Packet
packet_by mode reported front last (by.Trap handler) = trap_packet last false (privilege last) false (place last)
packet_by mode reported front last by.Handler =
    trap_packet (first_or last front) (is_taken last) (privilege last) true (place last)
packet_by mode reported front last by.Sync = packet.Sync (is_taken last) (privilege last) (place last)
packet_by mode reported front last (by.Target cut_off) =
    packet.Address (outcomes (front ++ last ∷ [])) (delta mode reported (place last))
    (if cut_off then Updiscon else Plain)
packet_by mode reported front last by.Explicit =
    packet.Address (outcomes (front ++ last ∷ [])) (delta mode reported (place last)) Plain
packet_by mode reported front last by.Notify =
    packet.Address (outcomes (front ++ last ∷ [])) (delta mode reported (place last)) Notify
packet_by mode reported front last by.MapOrNothing = packet.Map (outcomes (front ++ last ∷ []))

-- The last reported address after a packet. A branch map leaves it as it was.
abbrev pub reported_by : Rule → ℕ → Event → ℕ
reported_by by.MapOrNothing reported last = reported
reported_by other reported last = place last

-- The packets of pieces, in this mode and after this last reported address.
abbrev pub reports : Mode → ℕ → List Piece → List Packet
reports mode reported [] = []
reports mode reported (piece ∷ pieces) =
    packet_by mode reported piece.front piece.last piece.by
    ∷ reports mode (reported_by piece.by reported piece.last) pieces

-- The rule of the last of these pieces, or this one where there is none.
abbrev pub last_rule : Rule → List Piece → Rule
last_rule rule [] = rule
last_rule rule (piece ∷ pieces) = last_rule piece.by pieces

-- How the trace closes, by the rule of the last event: `EndedRep` where its address was reported by the rule
-- `Explicit`, and else `EndedNtr`.
abbrev pub closing : Rule → Support
closing by.Explicit = EndedRep
closing other = EndedNtr

-- The closing packet of a log.
abbrev pub closing_packet : Words → ℕ → List Event → Packet
closing_packet words period log = packet.Support (closing (last_rule by.MapOrNothing (pieces_of words period log)))

-- The packets of a log: Open, which announces the mode, one packet for each piece, and the closing packet.
abbrev pub packets : Words → ℕ → Mode → List Event → List Packet
packets words period mode log =
    packet.Support (Open mode) ∷ reports mode 0 (pieces_of words period log) ++ closing_packet words period log ∷ []
