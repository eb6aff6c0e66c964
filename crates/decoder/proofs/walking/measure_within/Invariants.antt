-- The loop keeps what the walk that is left adds to the steps that were made.
use Rattle.std.proofs.Common.{◌≡◌, ◌-◌, ◌≤◌, drop}
use Rattle.rvclass.specs.Fetch.{words_of}
use Rattle.decoder.specs.steps.WalkSteps as steps
use Rattle.decoder.specs.steps.Walks.{event_of, goal_end, Carries}
use Rattle.decoder.proofs.walking.measure_within.Given as goal

abbrev pub invariant-loop : goal.invariant-loop
invariant-loop l =
    Carries (words_of l.paths.program.now) l.here
    × (l.counter ≤ l.done)
    × (steps.summary (event_of l.fn.from)
    (steps.walk_within (words_of l.paths.program.now) l.paths.longest (event_of l.fn.from) l.course.outcomes
    (goal_end l.course.goal))
    ≡ steps.plus l.done (steps.summary (event_of l.here)
    (steps.walk_within (words_of l.paths.program.now) (l.paths.longest - l.done) (event_of l.here)
    (drop l.used l.course.outcomes) (goal_end l.course.goal))))
