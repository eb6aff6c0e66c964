-- The places of a program's halfwords, which are numbered from the highest address down.
use Rattle.std.specs.Prelude.{ℕ, ◌≡◌, ◌+◌, ◌-◌, ◌*◌, ◌&&◌, nat_le, nat_lt, if◌then◌else◌, Bool, List, [], ◌∷◌}
use Rattle.std.specs.Prelude.{map, Option, Some, None, Vec}
use Rattle.decoder.specs.declared.segments.CodeSegment.{CodeSegment}

-- A place is one of a segment's.
abbrev pub has_place : CodeSegment → ℕ → Bool
has_place segment place = nat_le segment.first place && nat_lt place (segment.first + segment.count)

-- The address of a segment's place.
abbrev pub addr_in : CodeSegment → ℕ → ℕ
addr_in segment place = segment.end - 2 * (place - segment.first + 1)

-- The address of a place, and 0 where no segment has it.
abbrev pub addr_of : List CodeSegment → ℕ → ℕ
addr_of [] place = 0
addr_of (segment ∷ segments) place = if has_place segment place then addr_in segment place else addr_of segments place

-- The first places of segments whose places are numbered from this number on, with no gap.
abbrev pub first_places : ℕ → List CodeSegment → List ℕ
first_places from [] = []
first_places from (segment ∷ segments) = from ∷ first_places (from + segment.count) segments

-- The first place of a segment.
abbrev pub first_of : CodeSegment → ℕ
first_of segment = segment.first

-- The places of segments are numbered from this number on, with no gap.
abbrev pub AreSegments : ℕ → List CodeSegment → Type 0
AreSegments from segments = map first_of segments ≡ first_places from segments

-- The number of the place after all of these segments, from this number on.
abbrev pub next_place : ℕ → List CodeSegment → ℕ
next_place from [] = from
next_place from (segment ∷ segments) = next_place (from + segment.count) segments

-- The segments of a list, if there is one.
abbrev pub segments_in : {A : Type 0} → Option (Vec CodeSegment A) → List CodeSegment
segments_in None = []
segments_in (Some segments) = segments.items
