-- Addresses of instructions.
use Rattle.std.specs.Prelude.{◌≡◌, ◌<◌, ◌%◌, ◌^◌, ℕ}

-- An even number of 64 bits. The address field of a packet holds such a number too, an address or a difference of two.
abbrev pub IsAddress : ℕ → Type 0
IsAddress addr = (addr < 2 ^ 64) × (addr % 2 ≡ 0)
