use Rattle.std.proofs.Common.{◌≤◌, [], length, take}
use Rattle.rvclass.specs.Fetch.{words_of}
use Rattle.encoder.specs.steps.Becomes.{Becomes}
use Rattle.encoder.proofs.encoder.Encoder.run.Given as goal

-- The events that were taken gave nothing.
abbrev pub invariant-loop : goal.invariant-loop
invariant-loop l =
    (l.counter ≤ l.taken) × (l.taken ≤ length l.events)
    × Becomes (words_of l.program) l.fn.self (take l.taken l.events) l.self []
