-- A memory of several pieces.
use Rattle.std.specs.Prelude.{◌≡◌, ◌+◌, ◌-◌, ◌^◌, ◌≤◌, ◌||◌, ℕ, Bool, false, List, [], ◌∷◌, length, min, nat_lt, nat_eq}
use Rattle.std.specs.Prelude.{if◌then◌else◌}
use Rattle.std.specs.List.{AllByRecursion}
use Rattle.rvclass.specs.Piece.{Piece, IsPiece, overlap}

-- A memory's pieces: the one that it began with, then those with bytes by rising base, then those without in the order
-- in which they were added.
abbrev pub Memory : Type 0
Memory = List Piece

-- A piece overlaps one of these.
abbrev pub overlaps : Piece → Memory → Bool
overlaps p [] = false
overlaps p (other ∷ others) = overlap p other || overlaps p others

-- No piece overlaps one after it.
abbrev pub AreApart : Memory → Type 0
AreApart [] = Unit {0}
AreApart (p ∷ ps) = (overlaps p ps ≡ false) × AreApart ps

-- The number of bytes of all pieces.
abbrev pub byte_count : Memory → ℕ
byte_count [] = 0
byte_count (p ∷ ps) = length p.bytes + byte_count ps

-- The lowest of a base and those of pieces.
abbrev pub lowest_of : ℕ → Memory → ℕ
lowest_of base [] = base
lowest_of base (p ∷ ps) = min p.base (lowest_of base ps)

-- The lowest base of all pieces, of those without bytes too.
abbrev pub base_of : Memory → ℕ
base_of [] = 0
base_of (p ∷ ps) = lowest_of p.base ps

-- The bounds of every memory, by this project's profile.
pub record IsMemory (m : Memory) : Type 0 where
  pub each : AllByRecursion IsPiece m
  pub apart : AreApart m
  pub small : byte_count m ≤ 2 ^ 26
  pub few : length m ≤ 1024

-- A piece's rank among the pieces after the first: its base, or for a piece without bytes the highest number.
abbrev pub rank_of : Piece → ℕ
rank_of p = if nat_eq (length p.bytes) 0 then 2 ^ 64 - 1 else p.base

-- Pieces with one more, which comes before the first of a higher rank.
abbrev pub placed : Piece → Memory → Memory
placed p [] = p ∷ []
placed p (other ∷ others) =
    if nat_lt (rank_of p) (rank_of other) then p ∷ other ∷ others else other ∷ placed p others

-- A memory's pieces: those with bytes by rising base, then those without.
abbrev pub in_order : Memory → Memory
in_order [] = []
in_order (first ∷ others) = placed first others

-- A memory with one more piece.
abbrev pub with_piece : Memory → Piece → Memory
with_piece [] p = p ∷ []
with_piece (first ∷ others) p = first ∷ placed p others
