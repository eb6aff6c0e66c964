-- Parts of what is left of a hart's log, whatever happened to its messages.
use Rattle.std.specs.Prelude.{ℕ, zero, suc, ◌-◌, List, [], ◌∷◌}
use Rattle.retire.specs.declared.event.Event.{Event}
use Rattle.salvaging.specs.declared.reason.Reason.{Reason}

-- A part: how many numbers did not come or are doubtful; the first and the last number of a stretch and its events; the
-- number of a bad message, its place among its hart's, and why it is bad; a doubtful number, the place of its first
-- message, and that of the first one after it with another payload; or the number of a message that stands alone after
-- the end of its hart, and its place.
pub data LeftPart : Type 0 where
  Missing : ℕ → LeftPart
  Events : ℕ → ℕ → List Event → LeftPart
  BadNumber : ℕ → ℕ → Reason → LeftPart
  DoubtfulNumber : ℕ → ℕ → ℕ → LeftPart
  AloneNumber : ℕ → ℕ → LeftPart

-- A gap of this many numbers, as a list of parts; no part where there is none.
abbrev pub gap : ℕ → List LeftPart
gap zero = []
gap (suc missing) = Missing (suc missing) ∷ []

-- A stretch of these events as a list of parts, where `count` consecutive numbers up to below `next` give it; no part
-- where there is no event.
abbrev pub stretch : ℕ → ℕ → List Event → List LeftPart
stretch next count [] = []
stretch next count (event ∷ events) = Events (next - count) (next - 1) (event ∷ events) ∷ []
