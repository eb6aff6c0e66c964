-- Which packets and which log a decoder's state stands for, as a caller may keep it.
use Rattle.std.specs.Prelude.{List}
use Rattle.retire.specs.declared.event.Event.{Event}
use Rattle.rvclass.specs.Words.{Words}
use Rattle.payload.specs.declared.packet.Packet.{Packet}
use Rattle.decoder.specs.DecoderStands.{DecoderStands}
use Rattle.decoder.specs.declared.decoding.Decoder.{Decoder}
use Rattle.decoder.specs.declared.state.DecoderState.{DecoderState}

-- The decoder that remembers this.
abbrev pub decoder_of : DecoderState → Decoder
decoder_of state = record {
  phase = state.phase;
  waiting = state.waiting;
  last = state.last;
  mode = state.mode;
  announced = state.announced;
  reported = state.reported;
}

-- The state stands for packets and a log: the decoder with this state does.
abbrev pub StateStands : Words → List Packet → List Event → DecoderState → Type 0
StateStands words packets log state = DecoderStands words packets log (decoder_of state)
