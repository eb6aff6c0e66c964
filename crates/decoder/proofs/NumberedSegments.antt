-- The places of segments.
use Rattle.std.proofs.Common.{◌≡◌, ℕ, zero, suc, ◌+◌, ◌-◌, ◌*◌, ◌<◌, ◌≤◌, Bool, true, false, List, [], ◌∷◌, ◌++◌, Some}
use Rattle.std.proofs.Common.{refl, sym}
use Rattle.std.proofs.Common.{ap, ◌∙◌, subst, arith, slice_get, if◌then◌else◌}
use Rattle.std.proofs.lemmas.Bool.Decides.{nat_tests}
use Rattle.decoder.specs.steps.Segments.{AreSegments, addr_in, addr_of, has_place, next_place}
use Rattle.decoder.specs.declared.segments.CodeSegment.{CodeSegment}

-- The first segment of some, and the others.
split : (segment : CodeSegment) (segments : List CodeSegment) (from : ℕ) → AreSegments from (segment ∷ segments)
    → (segment.first ≡ from) × AreSegments (from + segment.count) segments
split segment segments from numbered = (cc, cc)

-- No segment has a place below the first.
from_first : (segments : List CodeSegment) (from i : ℕ) (segment : CodeSegment) → AreSegments from segments
    → slice_get segments i ≡ Some segment
    → from ≤ segment.first
from_first [] from i segment numbered is = cc
from_first (l ∷ ls) from zero segment numbered is =
    let same : l ≡ segment = cc in
    let first = (split l ls from numbered).0 in
    let at = ap (λ (l : CodeSegment). l.first) same in
    omega (arith, first, at)
from_first (l ∷ ls) from (suc i) segment numbered is =
    let later = from_first ls (from + l.count) i segment (split l ls from numbered).1 is in
    omega (arith, later)

-- The address of a place that the segment with a number has.
pub addr_by_segment : (segments : List CodeSegment) (from i place : ℕ) (segment : CodeSegment)
    → AreSegments from segments
    → slice_get segments i ≡ Some segment → segment.first ≤ place → place < segment.first + segment.count
    → addr_of segments place ≡ addr_in segment place
addr_by_segment [] from i place segment numbered is low high = cc
addr_by_segment (l ∷ ls) from zero place segment numbered is low high =
    let same : l ≡ segment = cc in
    let has : has_place segment place ≡ true = grind (arith, nat_tests) in
    ap (λ (l : CodeSegment). if has_place l place then addr_in l place else addr_of ls place) same
    ∙ ap (λ b. if b then addr_in segment place else addr_of ls place) has
addr_by_segment (l ∷ ls) from (suc i) place segment numbered is low high =
    let after = from_first ls (from + l.count) i segment (split l ls from numbered).1 is in
    let first = (split l ls from numbered).0 in
    let past : l.first + l.count ≤ place = omega (arith, after, first, low) in
    let other : has_place l place ≡ false = grind (arith, nat_tests) in
    ap (λ b. if b then addr_in l place else addr_of ls place) other
    ∙ addr_by_segment ls (from + l.count) i place segment (split l ls from numbered).1 is low high

-- The same, by how far the place is from the segment's first, and by the address.
pub addr_back : (segments : List CodeSegment) (i place back addr : ℕ) (segment : CodeSegment) → AreSegments 0 segments
    → slice_get segments i ≡ Some segment → place ≡ segment.first + back → back < segment.count
    → addr ≡ segment.end - 2 * (back + 1)
    → addr_of segments place ≡ addr
addr_back segments i place back addr segment numbered is at few there =
    let far : place - segment.first ≡ back = omega (arith, at) in
    addr_by_segment segments 0 i place segment numbered is (omega (arith, at)) (omega (arith, at, few))
    ∙ ap (λ n. segment.end - 2 * (n + 1)) far ∙ sym there

-- One segment more, after the last place.
pub segments_pushed : (segments : List CodeSegment) (from : ℕ) (segment : CodeSegment) → AreSegments from segments
    → segment.first ≡ next_place from segments → AreSegments from (segments ++ segment ∷ [])
segments_pushed [] from segment numbered first = (λ i. first i ∷ [])
segments_pushed (l ∷ ls) from segment numbered first =
    let parts = split l ls from numbered in
    let later = segments_pushed ls (from + l.count) segment parts.1 first in
    (λ i. parts.0 i ∷ later i)

pub next_pushed : (segments : List CodeSegment) (from : ℕ) (segment : CodeSegment)
    → next_place from (segments ++ segment ∷ []) ≡ next_place from segments + segment.count
next_pushed [] from segment = refl
next_pushed (l ∷ ls) from segment = next_pushed ls (from + l.count) segment
