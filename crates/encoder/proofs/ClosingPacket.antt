-- The last packet of a log closes its trace.
use Rattle.std.proofs.Common.{◌≡◌, ℕ, true, List, Some, refl, ap, ◌∙◌}
use Rattle.retire.specs.declared.event.Event.{Event}
use Rattle.rvclass.specs.Words.{Words}
use Rattle.payload.specs.Closing.{is_closing_packet}
use Rattle.payload.specs.ClosedTrace.{closes, last_is_closing}
use Rattle.payload.specs.declared.mode.Mode.{Mode}
use Rattle.payload.specs.declared.packet.Packet.TheVariants as packet
use Rattle.payload.specs.declared.packet.Support.TheVariants.{Open}
use Rattle.encoder.specs.Packets.{closing, closing_packet, last_rule, packets, reports}
use Rattle.encoder.specs.Piece.{pieces_of}
use Rattle.encoder.specs.declared.rule.Rule.{Rule}
use Rattle.encoder.specs.declared.rule.Rule.TheVariants as by
use Rattle.encoder.proofs.SpotLemmas.{last_or-snoc}

closing_closes : (rule : Rule) → is_closing_packet (packet.Support (closing rule)) ≡ true
closing_closes (by.Trap handler) = refl
closing_closes by.Handler = refl
closing_closes by.Sync = refl
closing_closes (by.Target cut_off) = refl
closing_closes by.Explicit = refl
closing_closes by.Notify = refl
closing_closes by.MapOrNothing = refl

pub packets_end : (words : Words) (period : ℕ) (mode : Mode) (log : List Event)
    → last_is_closing (packets words period mode log) ≡ true
packets_end words period mode log =
    let ps = pieces_of words period log in
    ap closes (last_or-snoc (Some (packet.Support (Open mode))) (reports mode 0 ps) (closing_packet words period log))
    ∙ closing_closes (last_rule by.MapOrNothing ps)
