-- The packets of a log open its trace in one mode.
use Rattle.std.proofs.Common.{◌≡◌, ℕ, All, Bool, false, List, [], ◌∷◌, ◌++◌, Some, refl}
use Rattle.std.proofs.lemmas.List.Elements.{All-append, All-cons, All-nil}
use Rattle.retire.specs.declared.event.Event.{Event}
use Rattle.retire.specs.declared.event.Event.TheVariants.{Retire, Trap}
use Rattle.rvclass.specs.Words.{Words}
use Rattle.payload.specs.declared.mode.Mode.{Mode}
use Rattle.payload.specs.declared.mode.Mode.TheVariants.{Differential, Full}
use Rattle.payload.specs.declared.packet.Packet.{Packet}
use Rattle.payload.specs.declared.packet.Packet.TheVariants as packet
use Rattle.payload.specs.declared.packet.Support.TheVariants.{Open}
use Rattle.encoder.specs.Packets.{closing, closing_packet, first_or, last_rule, packet_by, packets, reports}
use Rattle.encoder.specs.Packets.{reported_by}
use Rattle.encoder.specs.Packets.{trap_packet}
use Rattle.encoder.specs.Piece.{Piece, pieces_of}
use Rattle.encoder.specs.declared.rule.Rule.{Rule}
use Rattle.encoder.specs.declared.rule.Rule.TheVariants as by
use Rattle.receiver.specs.Agreeing.{opens_another}

-- The packet opens no trace in another mode than this one.
abbrev pub AgreesWith : Mode → Packet → Type 0
AgreesWith mode p = opens_another (Some mode) p ≡ false

open_agrees : (mode : Mode) → AgreesWith mode (packet.Support (Open mode))
open_agrees Differential = refl
open_agrees Full = refl

trap_agrees : (mode : Mode) (event : Event) (taken : Bool) (level : ℕ) (handler : Bool) (address : ℕ)
    → AgreesWith mode (trap_packet event taken level handler address)
trap_agrees mode (Retire addr itype priv) taken level handler address = refl
trap_agrees mode (Trap priv interrupt cause epc tval) taken level handler address = refl

report_agrees : (announced mode : Mode) (reported : ℕ) (front : List Event) (last : Event) (rule : Rule)
    → AgreesWith announced (packet_by mode reported front last rule)
report_agrees announced mode reported front last (by.Trap handler) = trap_agrees announced last _ _ _ _
report_agrees announced mode reported front last by.Handler = trap_agrees announced (first_or last front) _ _ _ _
report_agrees announced mode reported front last by.Sync = refl
report_agrees announced mode reported front last (by.Target cut_off) = refl
report_agrees announced mode reported front last by.Explicit = refl
report_agrees announced mode reported front last by.Notify = refl
report_agrees announced mode reported front last by.MapOrNothing = refl

reports_agree : (announced mode : Mode) (reported : ℕ) (pieces : List Piece)
    → All (AgreesWith announced) (reports mode reported pieces)
reports_agree announced mode reported [] = All-nil (AgreesWith announced)
reports_agree announced mode reported (piece ∷ pieces) =
    All-cons (AgreesWith announced) (packet_by mode reported piece.front piece.last piece.by)
    (reports mode (reported_by piece.by reported piece.last) pieces)
    (report_agrees announced mode reported piece.front piece.last piece.by)
    (reports_agree announced mode (reported_by piece.by reported piece.last) pieces)

closing_agrees : (mode : Mode) (rule : Rule) → AgreesWith mode (packet.Support (closing rule))
closing_agrees mode (by.Trap handler) = refl
closing_agrees mode by.Handler = refl
closing_agrees mode by.Sync = refl
closing_agrees mode (by.Target cut_off) = refl
closing_agrees mode by.Explicit = refl
closing_agrees mode by.Notify = refl
closing_agrees mode by.MapOrNothing = refl

-- None of them opens a trace in another mode.
pub packets_agree : (words : Words) (period : ℕ) (mode : Mode) (log : List Event)
    → All (AgreesWith mode) (packets words period mode log)
packets_agree words period mode log =
    let pieces = pieces_of words period log in
    let end = closing_packet words period log in
    All-cons (AgreesWith mode) (packet.Support (Open mode)) (reports mode 0 pieces ++ end ∷ []) (open_agrees mode)
    (All-append (AgreesWith mode) (reports mode 0 pieces) (end ∷ []) (reports_agree mode mode 0 pieces)
    (All-cons (AgreesWith mode) end [] (closing_agrees mode (last_rule by.MapOrNothing pieces))
    (All-nil (AgreesWith mode))))
