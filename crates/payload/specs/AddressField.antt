-- What the address field of an address packet holds, and the address that it reports.
use Rattle.std.specs.Prelude.{ℕ, ◌+◌, ◌-◌, ◌%◌, ◌^◌}
use Rattle.payload.specs.declared.mode.Mode.{Mode}
use Rattle.payload.specs.declared.mode.Mode.TheVariants.{Differential, Full}

-- The difference of an address from the last reported one, modulo 2^64.
abbrev pub difference : ℕ → ℕ → ℕ
difference reported address = (address + (2 ^ 64 - reported % 2 ^ 64)) % 2 ^ 64

-- What the field holds for an address after the last reported one: the difference of the two, or in full-address mode
-- the address itself.
abbrev pub delta : Mode → ℕ → ℕ → ℕ
delta Differential reported address = difference reported address
delta Full reported address = address

-- The address that the field reports after the last reported one: the sum of both, modulo 2^64, or in full-address mode
-- what the field holds.
abbrev pub aim : Mode → ℕ → ℕ → ℕ
aim Differential reported field = (reported + field) % 2 ^ 64
aim Full reported field = field
