-- Payloads that a decoder is fed one after the other, as far as the buffer goes.
use Rattle.std.specs.Prelude.{ℕ, ◌≡◌, ◌≤◌, ◌++◌, List, Option, Result, Ok, Err, drop, length, map}
use Rattle.decoder.specs.declared.fault.DecodeFault.{DecodeFault}
use Rattle.decoder.specs.declared.state.DecoderState.{DecoderState}
use Rattle.payload.specs.Reading.{reading}
use Rattle.payload.specs.declared.packet.Packet.{Packet}
use Rattle.retire.specs.declared.event.Event.{Event}
use Rattle.rvclass.specs.Image.{Image}
use Rattle.ffi.specs.DecoderKept.{IsOfState}
use Rattle.ffi.specs.Events.{numbers_of_event}
use Rattle.ffi.specs.Fed.{RefusesPayload, TakesPayload}
use Rattle.ffi.specs.FedAll.{IsNotTaken, TakesIfAny}
use Rattle.ffi.specs.Images.{Judged}
use Rattle.ffi.specs.declared.decoder_state.DecoderNumbers.{DecoderNumbers}
use Rattle.ffi.specs.declared.events.EventNumbers.{EventNumbers}

-- A packet is that of a payload, which the decoder with these numbers and this state is fed.
pub record IsToFeed (image : Judged) (payload : List ℕ) (numbers : DecoderNumbers) (program : Image) (packet : Packet)
    (state : DecoderState) : Type 0 where
  pub made : image ≡ Ok program
  pub read : reading payload ≡ Ok packet
  pub are : IsOfState numbers state

-- The decoder takes the packet, has this state and its numbers then, and these events were added; or it refuses it.
abbrev pub IsPacketFed : Judged → List ℕ → DecoderNumbers → List Event → DecoderState
    → Result DecoderNumbers DecodeFault → Type 0
IsPacketFed image payload numbers events state (Ok after) =
    TakesPayload image payload numbers after events × IsOfState after state
IsPacketFed image payload numbers events state (Err why) = RefusesPayload image payload numbers why

-- The next payload was taken, and so many events of it were written; or it was not, for this reason, and nothing changed.
abbrev pub IsNextFed : Judged → Option (List ℕ) → Result ℕ ℕ → DecoderNumbers → DecoderNumbers → DecoderState
    → DecoderState → List EventNumbers → List EventNumbers → Type 0
IsNextFed image payload (Ok count) before after kept_before kept old new =
    (events : List Event) × TakesIfAny image payload before after events × IsOfState after kept
    × (count ≡ length events) × (count ≤ length old) × (new ≡ map numbers_of_event events ++ drop count old)
IsNextFed image payload (Err status) before after kept_before kept old new =
    IsNotTaken image payload before (length old) status × (after ≡ before) × (kept ≡ kept_before) × (new ≡ old)
