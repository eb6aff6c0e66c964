-- No firm message begins at the places so far.
use Rattle.std.proofs.Common.{◌≡◌, ◌<◌, ◌≤◌, ℕ, false, drop}
use Rattle.frames.specs.GuidedTaken.{is_known_at}
use Rattle.frames.specs.Taken.{is_firm}
use Rattle.frames.proofs.guided_taking.has_firm_inside.Given as goal

abbrev pub invariant-loop-at : goal.invariant-loop-at
invariant-loop-at g l =
    (k : ℕ) → 1 ≤ k → k < l.at → is_firm (is_known_at (g.S.Sent.sees l.sent)) (drop k l.bytes) ≡ false
