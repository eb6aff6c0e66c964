-- The packets of this project's profile.
use Rattle.std.specs.Prelude.{ℕ, ◌≡◌, ◌^◌, ◌<◌, ◌≤◌, Bool, true, false, List, length}
use Rattle.isa.specs.Address.{IsAddress}
use Rattle.isa.specs.Privilege.{IsPrivilege}
use Rattle.payload.specs.Limits.{most_outcomes}
use Rattle.payload.specs.declared.packet.Packet.{Packet}
use Rattle.payload.specs.declared.packet.Packet.TheVariants as packet

-- Outcomes that an address packet may have: 0 to 31.
abbrev pub AreOutcomes : List Bool → Type 0
AreOutcomes outcomes = length outcomes ≤ most_outcomes

-- Outcomes of a full branch map: 31.
abbrev pub AreFull : List Bool → Type 0
AreFull outcomes = length outcomes ≡ most_outcomes

-- The value that a trap reports: 0 for an interrupt, and 64 bits for an exception.
abbrev pub IsTrapValue : Bool → ℕ → Type 0
IsTrapValue true tval = tval ≡ 0
IsTrapValue false tval = tval < 2 ^ 64

-- The packet is of the profile.
abbrev pub InProfile : Packet → Type 0
InProfile (packet.Sync taken privilege address) = IsPrivilege privilege × IsAddress address
InProfile (packet.Trap taken privilege cause interrupt handler address tval) =
    IsPrivilege privilege × (cause < 64) × IsAddress address × IsTrapValue interrupt tval
InProfile (packet.Support support) = Unit {0}
InProfile (packet.Address outcomes delta report) = AreOutcomes outcomes × IsAddress delta
InProfile (packet.Map outcomes) = AreFull outcomes
