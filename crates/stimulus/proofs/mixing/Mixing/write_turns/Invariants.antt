use Rattle.std.proofs.Common.{◌-◌}
use Rattle.stimulus.specs.Mixing.{IsMixing, Mixed, mixed_from, most_turns}
use Rattle.stimulus.specs.steps.Drawing.{WritesTurns}
use Rattle.stimulus.proofs.mixing.Mixing.write_turns.Given as goal

-- The messages of the turns so far are written.
abbrev pub invariant-loop : goal.invariant-loop
invariant-loop g l =
    (mixed : Mixed) → IsMixing mixed l.fn.self
    → WritesTurns g.F.Form.text (mixed_from most_turns mixed) (most_turns - l.counter) l.self
    (g.W.Write.contents l.fn.sink) (g.W.Write.contents l.sink)
