-- Payloads that unpack to one packet.
use Rattle.std.specs.Prelude.{ℕ, ◌≡◌, List, Ok}
use Rattle.payload.specs.Reading.{reading}
use Rattle.payload.specs.declared.packet.Packet.{Packet}
use Rattle.payload.specs.declared.by.By.{By}
use Rattle.payload.specs.declared.by.By.TheVariants as by

-- Payloads are compared by packets, and both unpack to the same one.
abbrev pub UnpackAlike : By → List ℕ → List ℕ → Type 0
UnpackAlike by.Bytes sent came = ⊥
UnpackAlike by.Packets sent came = (packet : Packet) × (reading sent ≡ Ok packet) × (reading came ≡ Ok packet)
