-- The messages of the lines that were passed are written, and the others follow.
use Rattle.std.proofs.Common.{[]}
use Rattle.std.specs.Str.Lines.{lines}
use Rattle.captures.specs.Pass.{pass}
use Rattle.captures.proofs.Passes.{IsUnderWay}
use Rattle.captures.proofs.passed_lines.PassedLines.add.Given as goal

abbrev pub invariant-loop : goal.invariant-loop
invariant-loop g l =
    IsUnderWay [] (pass l.settings l.skip l.fn.self (lines l.text)) (pass l.settings l.skip l.self (lines l.lines))
    (g.W.Write.contents l.fn.sink) (g.W.Write.contents l.sink)
