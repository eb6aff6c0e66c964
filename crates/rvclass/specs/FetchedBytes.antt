-- What stands at an address of a memory.
use Rattle.std.specs.Prelude.{ℕ, zero, suc, ◌≡◌, ◌+◌, ◌*◌, ◌%◌, ◌^◌, ◌&&◌, Bool, true, Option, Some, None, is_some, unwrap_or}
use Rattle.std.specs.Prelude.{[], ◌∷◌, if◌then◌else◌}
use Rattle.rvclass.specs.Memory.{Memory}
use Rattle.rvclass.specs.Piece.{byte_in}
use Rattle.rvclass.specs.declared.fetched.Fetched.{Fetched}
use Rattle.rvclass.specs.declared.fetched.Fetched.TheVariants.{Word, Half, Nothing}

-- The first of two, if there is one, and else the second.
abbrev pub or_else : Option ℕ → Option ℕ → Option ℕ
or_else None other = other
or_else (Some byte) other = Some byte

-- The byte at an address, if there is one: that of the first piece that has one there.
abbrev pub byte_at : Memory → ℕ → Option ℕ
byte_at [] addr = None
byte_at (p ∷ ps) addr = or_else (byte_in p addr) (byte_at ps addr)

-- There is a byte at each of this many addresses from one on.
abbrev pub has_bytes : Memory → ℕ → ℕ → Bool
has_bytes m addr zero = true
has_bytes m addr (suc count) = is_some (byte_at m addr) && has_bytes m (addr + 1) count

-- The byte at an address, as a number, and 0 where there is none.
abbrev pub byte_or_zero : Memory → ℕ → ℕ
byte_or_zero m addr = unwrap_or (byte_at m addr) 0

-- The 16 bits at an address, little endian.
abbrev pub half_at : Memory → ℕ → ℕ
half_at m addr = byte_or_zero m addr + 2 ^ 8 * byte_or_zero m (addr + 1)

-- The 32 bits at an address, little endian.
abbrev pub word_at : Memory → ℕ → ℕ
word_at m addr = half_at m addr + 2 ^ 16 * half_at m (addr + 2)

-- What stands at an address: four bytes, or else two, or else nothing.
abbrev pub fetched : Memory → ℕ → Fetched
fetched m addr =
    if has_bytes m addr 4 then Word (word_at m addr) else
    if has_bytes m addr 2 then Half (half_at m addr) else
    Nothing

-- The 16 bits at an address are the low ones of what was fetched there.
abbrev pub BeginsWithHalf : Memory → ℕ → Fetched → Type 0
BeginsWithHalf m addr (Word word) = word % 2 ^ 16 ≡ half_at m addr
BeginsWithHalf m addr (Half half) = half % 2 ^ 16 ≡ half_at m addr
BeginsWithHalf m addr Nothing = Unit {0}
