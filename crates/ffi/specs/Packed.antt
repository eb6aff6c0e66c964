-- Payloads and packets as C has them.
use Rattle.std.specs.Prelude.{ℕ, ◌≡◌, Result, Ok, Err}
use Rattle.payload.specs.declared.fault.PackFault.{PackFault}
use Rattle.payload.specs.declared.packet.Packet.{Packet}
use Rattle.ffi.specs.Numbers.{numbers_of}
use Rattle.ffi.specs.Statuses.{pack_status}
use Rattle.ffi.specs.declared.numbers.PacketNumbers.{PacketNumbers}
use Rattle.ffi.specs.declared.status.TheConstants.{DONE}

-- Bytes are a payload of this packet, whose numbers are written; or they are no payload, for this reason, and nothing
-- is written.
abbrev pub IsUnpacked : Result Packet PackFault → ℕ → PacketNumbers → PacketNumbers → Type 0
IsUnpacked (Ok packet) status old new = (status ≡ DONE) × (new ≡ numbers_of packet)
IsUnpacked (Err why) status old new = (status ≡ pack_status why) × (new ≡ old)
