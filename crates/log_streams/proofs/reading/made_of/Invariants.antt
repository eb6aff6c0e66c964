use Rattle.std.specs.Io.KnownBytes.{Keeps}
use Rattle.retire.specs.HasRead.{content_of}
use Rattle.log_streams.specs.steps.Reading.{HasReadAndJudged}
use Rattle.log_streams.proofs.reading.made_of.Given as goal

-- The events so far were read and checked, and what is known of the log's bytes is kept.
abbrev pub invariant-loop : goal.invariant-loop
invariant-loop g l =
    HasReadAndJudged (g.T.LogTask.Keeps l.task l.program l.hart) l.program g.S.Source.given g.S.Source.left l.most
    l.reader l.judging
    × Keeps (content_of g.S.Source.given g.S.Source.left l.fn.reader)
    (content_of g.S.Source.given g.S.Source.left l.reader)
