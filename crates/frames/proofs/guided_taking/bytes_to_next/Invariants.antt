-- No message that is taken anywhere begins at the places so far.
use Rattle.std.proofs.Common.{◌≡◌, ◌<◌, ◌≤◌, ℕ, false, drop}
use Rattle.frames.specs.GuidedTaken.{is_taken_anywhere}
use Rattle.frames.proofs.guided_taking.bytes_to_next.Given as goal

abbrev pub invariant-loop-at : goal.invariant-loop-at
invariant-loop-at g l = (k : ℕ) → 1 ≤ k → k < l.at → is_taken_anywhere (g.S.Sent.sees l.sent) (drop k l.bytes) ≡ false
