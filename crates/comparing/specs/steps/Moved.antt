-- The rows before a place that goes on.
use Rattle.std.specs.Prelude.{ℕ, ◌≡◌, ◌≤◌, ◌+◌, ◌-◌, List, Option, slice_get}
use Rattle.retire.specs.declared.event.Event.{Event}
use Rattle.comparing.specs.declared.near.NearRows.{NearRows}

-- The place goes on by so many of these rows. This is the row that comes so many before it: one of them, or one that
-- came before the old place.
pub record IsMoved (many more : ℕ) (rows : List Event) (near : NearRows) (row : Option Event) : Type 0 where
  pub here : many ≤ more → row ≡ slice_get rows (more - many)
  pub one : many ≡ more + 1 → row ≡ near.one_before
  pub two : many ≡ more + 2 → row ≡ near.two_before
  pub three : many ≡ more + 3 → row ≡ near.three_before
