-- A line is counted.
use Rattle.std.specs.Prelude.{ℕ, List, Option, Some, None, slice_set}
use Rattle.live.specs.declared.rows.LineCounts.{LineCounts}

-- The counts of the harts, where that of one is changed, if it is known.
abbrev pub with_counts : (LineCounts → LineCounts) → List LineCounts → ℕ → Option LineCounts → List LineCounts
with_counts changed counts hart None = counts
with_counts changed counts hart (Some own) = slice_set counts hart (changed own)
