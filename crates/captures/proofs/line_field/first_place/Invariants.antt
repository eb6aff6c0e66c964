-- No byte before this place is of the kind that is looked for.
use Rattle.std.proofs.Common.{◌≡◌, ◌<◌, ℕ, false, slice_index}
use Rattle.captures.specs.steps.Cutting.{stops}
use Rattle.captures.proofs.line_field.first_place.Given as goal

abbrev pub invariant-loop-place : goal.invariant-loop-place
invariant-loop-place l = (k : ℕ) → k < l.place → stops l.stop (slice_index l.text k) ≡ false
