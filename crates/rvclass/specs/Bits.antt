-- The bits of an instruction, and addresses moved by an offset.
use Rattle.std.specs.Prelude.{ℕ, ◌+◌, ◌-◌, ◌/◌, ◌%◌, ◌^◌, nat_lt, if◌then◌else◌}

-- The number that the bits from high down to low of an instruction spell.
abbrev pub bits : ℕ → ℕ → ℕ → ℕ
bits word high low = word / 2 ^ low % 2 ^ (high + 1 - low)

-- A number of this many bits, sign-extended to 64 bits.
abbrev pub sign_extended : ℕ → ℕ → ℕ
sign_extended width n = if nat_lt n (2 ^ (width - 1)) then n else n + (2 ^ 64 - 2 ^ width)

-- An address moved by an offset of this many bits, modulo 2 ^ 64.
abbrev pub moved : ℕ → ℕ → ℕ → ℕ
moved width addr offset = (addr + sign_extended width offset) % 2 ^ 64
