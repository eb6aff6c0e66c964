use Rattle.log_streams.specs.steps.Allowed.{AreEntries}
use Rattle.log_streams.proofs.work.read_others.Given as goal

-- What was made of logs so far may be made of them.
abbrev pub invariant-loop-place : goal.invariant-loop-place
invariant-loop-place g l =
    AreEntries g.T.LogTask.Makes g.T.LogTask.MakesOfIllegal g.T.LogTask.MayRefuse g.F.Files.content
    g.F.Files.Gives l.work l.entries.items
