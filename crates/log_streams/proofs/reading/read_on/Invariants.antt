use Rattle.std.proofs.Common.{ℕ, List}
use Rattle.std.specs.Io.KnownBytes.{Keeps}
use Rattle.retire.specs.HasRead.{HasRead, content_of}
use Rattle.retire.specs.declared.event.Event.{Event}
use Rattle.log_streams.specs.steps.Reading.{HasReadOn}
use Rattle.log_streams.proofs.reading.read_on.Given as goal

-- More of the log was read, and what is known of its bytes is kept.
abbrev pub invariant-loop : goal.invariant-loop
invariant-loop g l =
    ((most : ℕ) (seen : List Event) → HasRead g.S.Source.given g.S.Source.left most seen l.fn.reader
    → HasReadOn g.S.Source.given g.S.Source.left most seen l.reader)
    × Keeps (content_of g.S.Source.given g.S.Source.left l.fn.reader)
    (content_of g.S.Source.given g.S.Source.left l.reader)
