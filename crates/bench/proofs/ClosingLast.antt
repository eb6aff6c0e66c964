-- Of the packets of a log only the last closes a trace, and so does only the last of its payloads.
use Rattle.std.proofs.Common.{◌≡◌, ℕ, zero, suc, true, All, List, [], ◌∷◌, ◌++◌, Some, length, map, slice_get, refl}
use Rattle.std.proofs.Common.{sym, ap, ◌∙◌, arith}
use Rattle.std.proofs.lemmas.List.{length-map}
use Rattle.std.proofs.lemmas.Option.{same_Some}
use Rattle.retire.specs.declared.event.Event.{Event}
use Rattle.rvclass.specs.Words.{Words}
use Rattle.payload.proofs.ReadingLaws.{reading-payload_of}
use Rattle.payload.specs.Closing.{is_closing, is_closing_packet, is_closing_reading}
use Rattle.payload.specs.Profile.{InProfile}
use Rattle.payload.specs.Spelling.{payload_of}
use Rattle.payload.specs.declared.mode.Mode.{Mode}
use Rattle.payload.specs.declared.packet.Packet.{Packet}
use Rattle.payload.specs.declared.packet.Packet.TheVariants as packet
use Rattle.payload.specs.declared.packet.Support.TheVariants.{Open}
use Rattle.encoder.specs.Packets.{closing_packet, packets, reports, reported_by, packet_by}
use Rattle.encoder.specs.Piece.{Piece, pieces_of}
use Rattle.message.proofs.Elements.{All-slice_get}
use Rattle.roundtrip.proofs.PacketOrder.{not_closing}
use Rattle.funnel.specs.Payloads.{ClosesOnlyLast}

reports_close_last : (mode : Mode) (reported : ℕ) (pieces : List Piece) (last : Packet) (n : ℕ) (one : Packet)
    → slice_get (reports mode reported pieces ++ last ∷ []) n ≡ Some one → is_closing_packet one ≡ true
    → length (reports mode reported pieces ++ last ∷ []) ≡ suc n
reports_close_last mode reported [] last zero one is closing = refl
reports_close_last mode reported [] last (suc n) one is closing = cc
reports_close_last mode reported (piece ∷ pieces) last zero one is closing =
    let same = same_Some (packet_by mode reported piece.front piece.last piece.by) one is in
    let going = not_closing mode reported piece.front piece.last piece.by in
    cc
reports_close_last mode reported (piece ∷ pieces) last (suc n) one is closing =
    ap suc (reports_close_last mode (reported_by piece.by reported piece.last) pieces last n one is closing)

pub packets_close_last : (words : Words) (period : ℕ) (mode : Mode) (log : List Event) (n : ℕ) (one : Packet)
    → slice_get (packets words period mode log) n ≡ Some one → is_closing_packet one ≡ true
    → length (packets words period mode log) ≡ suc n
packets_close_last words period mode log zero one is closing =
    let same = same_Some (packet.Support (Open mode)) one is in
    let open_closes = ap is_closing_packet same in
    cc
packets_close_last words period mode log (suc n) one is closing =
    ap suc (reports_close_last mode 0 (pieces_of words period log) (closing_packet words period log) n one is closing)

-- A payload closes where its packet does.
closing_payload : (one : Packet) → InProfile one → is_closing (payload_of one) ≡ is_closing_packet one
closing_payload one profile = ap is_closing_reading (reading-payload_of one profile)

-- The packet of a payload.
pub packet_at : (ps : List Packet) (n : ℕ) (payload : List ℕ) → slice_get (map payload_of ps) n ≡ Some payload
    → (one : Packet) × (slice_get ps n ≡ Some one) × (payload_of one ≡ payload)
packet_at [] n payload is = cc
packet_at (one ∷ ps) zero payload is = (one, refl, same_Some (payload_of one) payload is)
packet_at (one ∷ ps) (suc n) payload is = packet_at ps n payload is

pub payloads_close_last : (words : Words) (period : ℕ) (mode : Mode) (log : List Event)
    → All InProfile (packets words period mode log)
    → ClosesOnlyLast (map payload_of (packets words period mode log))
payloads_close_last words period mode log profile n payload is closing =
    let ps = packets words period mode log in
    let found = packet_at ps n payload is in
    let closes = sym (closing_payload found.0 (All-slice_get InProfile ps n found.0 found.1 profile))
    ∙ ap is_closing found.2 ∙ closing in
    let all = packets_close_last words period mode log n found.0 found.1 closes in
    omega (arith, all, length-map ps payload_of)
