-- What is known of a decoder's state, closed or not.
use Rattle.std.proofs.Common.{◌≡◌, ◌↔◌, Bool, true, false, List, Option, Some, None, refl}
use Rattle.std.specs.List.{last_or}
use Rattle.retire.specs.declared.event.Event.{Event}
use Rattle.rvclass.specs.Words.{Words}
use Rattle.payload.specs.Closing.{is_closing_packet}
use Rattle.payload.specs.ClosedTrace.{closes, last_is_closing}
use Rattle.payload.specs.declared.mode.Mode.{Mode}
use Rattle.payload.specs.declared.packet.Packet.{Packet}
use Rattle.decoder.specs.Resuming.{IsClosed, PassesOver}
use Rattle.decoder.specs.DecoderStands.{DecoderStands, phase_after, running_or_closed}
use Rattle.decoder.specs.declared.decoding.Decoder.{Decoder}

-- The laws of a decoder's state.
pub record StateLaws : Type 0 where
  pub closed : (words : Words) (ps : List Packet) (log : List Event) (decoder : Decoder)
      → DecoderStands words ps log decoder → IsClosed decoder ↔ (last_is_closing ps ≡ true)
  pub passing : (mode : Mode) (decoder : Decoder) → PassesOver mode decoder → ¬ IsClosed decoder

pub state_laws : StateLaws
state_laws = record {
  closed = λ words ps log decoder stands. by_last (last_or None ps) decoder stands.phase;
  passing = λ mode decoder passes closed. let phase = passes.phase in cc;
}
  where
    by_closing : (closing : Bool) (decoder : Decoder) → decoder.phase ≡ running_or_closed closing
        → IsClosed decoder ↔ (closing ≡ true)
    by_closing true decoder phase = (λ is. refl, λ is. phase)
    by_closing false decoder phase = (λ is. cc, λ is. cc)

    by_last : (last : Option Packet) (decoder : Decoder) → decoder.phase ≡ phase_after last
        → IsClosed decoder ↔ (closes last ≡ true)
    by_last None decoder phase = (λ is. cc, λ is. cc)
    by_last (Some p) decoder phase = by_closing (is_closing_packet p) decoder phase
