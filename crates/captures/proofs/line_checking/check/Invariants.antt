-- What is left to check gives the result, and each line that was passed had a byte.
use Rattle.std.proofs.Common.{◌≡◌, ◌≤◌, ◌+◌, length}
use Rattle.std.specs.Str.Lines.{lines}
use Rattle.captures.specs.steps.Passing.{checked_from}
use Rattle.captures.proofs.line_checking.check.Given as goal

abbrev pub invariant-loop-at : goal.invariant-loop-at
invariant-loop-at l =
    (checked_from l.settings l.form 1 1 (lines l.text) ≡ checked_from l.settings l.form l.at l.harts (lines l.lines))
    × (l.at + length l.lines ≤ length l.text + 1) × (1 ≤ l.harts) × (l.harts ≤ 1024)
