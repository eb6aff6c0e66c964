-- How a decoder goes on after packets that were lost.
use Rattle.std.specs.Prelude.{◌≡◌, Option, None}
use Rattle.payload.specs.declared.mode.Mode.{Mode}
use Rattle.payload.specs.declared.packet.Packet.{Packet}
use Rattle.payload.specs.declared.packet.Packet.TheVariants as packet
use Rattle.decoder.specs.declared.decoding.Decoder.{Decoder}
use Rattle.decoder.specs.declared.state.Phase.TheVariants.{Closed, PassingOver}

-- The packet is a synchronisation.
abbrev pub IsSync : Packet → Type 0
IsSync (packet.Sync taken priv address) = Unit {0}
IsSync other = ⊥

-- The decoder passes over packets until a synchronisation comes, and reads from there on in this mode. No packet waits,
-- there is no event before, and the last reported address is 0.
pub record PassesOver (mode : Mode) (decoder : Decoder) : Type 0 where
  pub phase : decoder.phase ≡ PassingOver
  pub waiting : decoder.waiting ≡ None
  pub last : decoder.last ≡ None
  pub reads : decoder.mode ≡ mode
  pub reported : decoder.reported ≡ 0

-- The packet that closes the trace came.
abbrev pub IsClosed : Decoder → Type 0
IsClosed decoder = decoder.phase ≡ Closed

-- The packet that opens the trace announced this mode, or, where this is `None`, it did not come.
abbrev pub HasMode : Option Mode → Decoder → Type 0
HasMode announced decoder = decoder.announced ≡ announced
