-- How ranges are found, piece by piece.
use Rattle.std.specs.Prelude.{ℕ, ◌+◌, ◌==◌, if◌then◌else◌, List, ◌∷◌, Option, Some, None}
use Rattle.rvclass.specs.Piece.{Piece}
use Rattle.explaining.specs.Ranges.{range_from, ranges_after, ranges_of}
use Rattle.explaining.specs.declared.ranges.Range.{Range}

-- The ranges of pieces in order, after a range if there is one.
abbrev pub ranges_on : Option Range → List Piece → List Range
ranges_on None ps = ranges_of ps
ranges_on (Some range) ps = ranges_after range ps

-- The range that ends before a piece of this base and length.
abbrev pub passed : Option Range → Option (ℕ × ℕ) → Option Range
passed None extent = None
passed (Some range) None = None
passed (Some range) (Some extent) =
    if extent.1 == 0 then None else
    if extent.0 == range.end then None else
    Some range

-- The range that goes on up to a piece's end, of this base and length.
abbrev pub carried : Option Range → Option (ℕ × ℕ) → Option Range
carried range None = range
carried None (Some extent) = if extent.1 == 0 then None else Some (range_from extent.0 (extent.0 + extent.1))
carried (Some range) (Some extent) =
    if extent.1 == 0 then Some range else
    if extent.0 == range.end then Some (range_from range.first (extent.0 + extent.1)) else
    Some (range_from extent.0 (extent.0 + extent.1))

-- Ranges after one, if there is one.
abbrev pub behind : Option Range → List Range → List Range
behind None ranges = ranges
behind (Some range) ranges = range ∷ ranges

-- How many ranges are left to go over, after one that was passed, if one was.
abbrev pub lists_one : Option Range → ℕ
lists_one None = 0
lists_one (Some range) = 1
