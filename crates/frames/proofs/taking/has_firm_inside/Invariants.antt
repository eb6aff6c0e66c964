-- No firm frame begins at the places so far.
use Rattle.std.proofs.Common.{◌≡◌, ◌<◌, ◌≤◌, ℕ, false, drop}
use Rattle.frames.specs.Frame.{is_frame}
use Rattle.frames.specs.Taken.{is_firm}
use Rattle.frames.proofs.taking.has_firm_inside.Given as goal

abbrev pub invariant-loop-at : goal.invariant-loop-at
invariant-loop-at l = (k : ℕ) → 1 ≤ k → k < l.at → is_firm (is_frame l.known) (drop k l.bytes) ≡ false
