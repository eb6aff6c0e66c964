-- No frame that is taken begins at the places so far.
use Rattle.std.proofs.Common.{◌≡◌, ◌<◌, ◌≤◌, ℕ, false, drop}
use Rattle.frames.specs.Taken.{is_taken}
use Rattle.frames.proofs.taking.bytes_to_next.Given as goal

abbrev pub invariant-loop-at : goal.invariant-loop-at
invariant-loop-at l = (k : ℕ) → 1 ≤ k → k < l.at → is_taken l.known (drop k l.bytes) ≡ false
