-- The four bytes of one piece at an address.
use Rattle.std.specs.Prelude.{ℕ, ◌+◌, ◌-◌, ◌*◌, ◌^◌, ◌&&◌, nat_le, if◌then◌else◌, List, slice_index, Option, Some, None}
use Rattle.rvclass.specs.Piece.{Piece, end_of}

-- The 16 bits at a place of bytes, little endian.
abbrev pub half_from : List ℕ → ℕ → ℕ
half_from bytes place = slice_index bytes place + 2 ^ 8 * slice_index bytes (place + 1)

-- The 32 bits at a place of bytes, little endian.
abbrev pub word_from : List ℕ → ℕ → ℕ
word_from bytes place = half_from bytes place + 2 ^ 16 * half_from bytes (place + 2)

-- The 32 bits of a piece at an address, if the piece has all four bytes.
abbrev pub word_in : Piece → ℕ → Option ℕ
word_in p addr =
    if nat_le p.base addr && nat_le (addr + 4) (end_of p) then Some (word_from p.bytes (addr - p.base)) else None
