-- The ranges of addresses at which an image has bytes.
use Rattle.std.specs.Prelude.{ℕ, zero, suc, ◌-◌, ◌++◌, ◌==◌, if◌then◌else◌, List, [], ◌∷◌, length, codes}
use Rattle.std.specs.Fmt.{decimal}
use Rattle.rvclass.specs.Memory.{in_order}
use Rattle.rvclass.specs.Piece.{Piece, end_of}
use Rattle.retire.specs.LogText.{hex}
use Rattle.rvclass.specs.Image.{Image}
use Rattle.explaining.specs.declared.ranges.Range.{Range}

-- The range from one address up to another, which is not in it.
abbrev pub range_from : ℕ → ℕ → Range
range_from first end = record { first = first; end = end }

-- The ranges of pieces in order, after a range: a piece that begins where it ends is joined to it.
abbrev pub ranges_after : Range → List Piece → List Range
ranges_after range [] = range ∷ []
ranges_after range (p ∷ ps) =
    if length p.bytes == 0 then ranges_after range ps else
    if p.base == range.end then ranges_after (range_from range.first (end_of p)) ps else
    range ∷ ranges_after (range_from p.base (end_of p)) ps

-- The ranges of pieces in order: those that touch are in one, and those without bytes in none.
abbrev pub ranges_of : List Piece → List Range
ranges_of [] = []
ranges_of (p ∷ ps) =
    if length p.bytes == 0 then ranges_of ps else ranges_after (range_from p.base (end_of p)) ps

-- The first and the last address of a range.
abbrev pub range_text : Range → List ℕ
range_text range = hex range.first ++ (codes " to " ++ hex (range.end - 1))

-- At most so many ranges after the first, and how many more there are.
abbrev pub rest_text : ℕ → List Range → List ℕ
rest_text most [] = []
rest_text zero (range ∷ ranges) = codes ", and " ++ (decimal (length (range ∷ ranges)) ++ codes " more")
rest_text (suc most) (range ∷ ranges) = codes ", " ++ (range_text range ++ rest_text most ranges)

-- The first four of some ranges, and how many more there are.
abbrev pub ranges_text : List Range → List ℕ
ranges_text [] = codes "the image is empty"
ranges_text (range ∷ ranges) = codes "the image is " ++ (range_text range ++ rest_text 3 ranges)

-- The ranges of an image, in order of addresses.
abbrev pub image_text : Image → List ℕ
image_text image = ranges_text (ranges_of (in_order image))
