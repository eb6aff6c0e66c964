-- Which pieces are added to a memory.
use Rattle.std.specs.Prelude.{ℕ, ◌+◌, ◌%◌, ◌^◌, nat_le, nat_lt, ◌==◌, not, if◌then◌else◌, List, length, Result, Ok, Err}
use Rattle.rvclass.specs.Memory.{Memory, overlaps, byte_count, with_piece}
use Rattle.rvclass.specs.Piece.{piece_at}
use Rattle.rvclass.specs.declared.piece_fault.PieceFault.{PieceFault}
use Rattle.rvclass.specs.declared.piece_fault.PieceFault.TheVariants.{OddBase, TooLarge, PastEnd, Overlap, TooMuch, TooMany}

-- A memory with the piece of these bytes from a base on, or the first fault that applies.
abbrev pub add_piece : Memory → ℕ → List ℕ → Result Memory PieceFault
add_piece m base bytes =
    if not (base % 2 == 0) then Err OddBase else
    if nat_lt (2 ^ 24) (length bytes) then Err TooLarge else
    if nat_le (2 ^ 64) (base + length bytes) then Err PastEnd else
    if overlaps (piece_at base bytes) m then Err Overlap else
    if nat_lt (2 ^ 26) (byte_count m + length bytes) then Err TooMuch else
    if nat_lt 1024 (length m + 1) then Err TooMany else
    Ok (with_piece m (piece_at base bytes))
