-- A piece of memory: bytes from an address on.
use Rattle.std.specs.Prelude.{◌≡◌, ◌+◌, ◌-◌, ◌%◌, ◌^◌, ◌<◌, ◌≤◌, ◌&&◌, ℕ, Bool, List, length, Option, Some, None}
use Rattle.std.specs.Prelude.{nat_le, nat_lt, min, max, slice_index, if◌then◌else◌}

-- A piece's bytes, from a base address on.
pub record Piece : Type 0 where
  pub base : ℕ
  pub bytes : List ℕ

-- The piece of these bytes from a base on.
abbrev pub piece_at : ℕ → List ℕ → Piece
piece_at base bytes = record { base = base; bytes = bytes }

-- The address after a piece's last byte.
abbrev pub end_of : Piece → ℕ
end_of p = p.base + length p.bytes

-- A piece's base and its number of bytes.
abbrev pub extent_of : Piece → ℕ × ℕ
extent_of p = (p.base, length p.bytes)

-- The bounds of every piece, by this project's profile.
pub record IsPiece (p : Piece) : Type 0 where
  pub even : p.base % 2 ≡ 0
  pub small : length p.bytes ≤ 2 ^ 24
  pub below : p.base + length p.bytes < 2 ^ 64

-- The byte of a piece at an address, if the piece has one there.
abbrev pub byte_in : Piece → ℕ → Option ℕ
byte_in p addr =
    if nat_le p.base addr && nat_lt addr (end_of p) then Some (slice_index p.bytes (addr - p.base)) else None

-- Two pieces overlap: the higher of their bases is below the lower of their ends. A piece with no byte overlaps none.
abbrev pub overlap : Piece → Piece → Bool
overlap p q = nat_lt (max p.base q.base) (min (end_of p) (end_of q))
