-- The loop keeps what was written of the walk, and how much room that leaves.
use Rattle.std.proofs.Common.{◌≡◌, ◌+◌, drop, vec_len, vec_capacity}
use Rattle.rvclass.specs.Fetch.{words_of}
use Rattle.decoder.specs.steps.WritingAsFound.{Writing}
use Rattle.decoder.specs.steps.Walks.{event_of, goal_end, Carries}
use Rattle.decoder.proofs.walking.write_found_within.Given as goal

abbrev pub invariant-loop-done : goal.invariant-loop-done
invariant-loop-done g l =
    (vec_capacity l.log ≡ vec_capacity l.initial.log)
    × (vec_len l.log ≡ vec_len l.initial.log + l.done)
    × Carries (words_of l.program) l.here
    × Writing (words_of l.program) l.limit (event_of l.fn.from) l.course.outcomes (goal_end l.course.goal)
    l.initial.log.items l.done (event_of l.here) (drop l.used l.course.outcomes) l.log.items
