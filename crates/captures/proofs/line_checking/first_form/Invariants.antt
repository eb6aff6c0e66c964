-- What is left has the form of the text, and each line that was passed had a byte.
use Rattle.std.proofs.Common.{◌≡◌, ◌≤◌, ◌+◌, length}
use Rattle.std.specs.Str.Lines.{lines}
use Rattle.captures.specs.Lines.{first_form}
use Rattle.captures.proofs.line_checking.first_form.Given as goal

abbrev pub invariant-loop : goal.invariant-loop
invariant-loop l =
    (first_form (lines l.text) ≡ first_form (lines l.lines)) × (l.counter + length l.lines ≤ length l.text)
