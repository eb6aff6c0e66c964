-- The loop keeps what was written of the walk, and room for the rest.
use Rattle.std.proofs.Common.{◌≡◌, ◌*◌, ◌-◌, ◌/◌, drop, vec_len, vec_capacity}
use Rattle.rvclass.specs.Memory.{byte_count}
use Rattle.rvclass.specs.Fetch.{words_of}
use Rattle.decoder.specs.steps.Retracing.{Adding}
use Rattle.decoder.specs.steps.Walks.{event_of, goal_end}
use Rattle.decoder.proofs.walking.write_within.Given as goal

abbrev pub invariant-loop : goal.invariant-loop
invariant-loop g l =
    (vec_capacity l.log ≡ vec_capacity l.initial.log)
    × Adding (words_of l.program) (32 * (byte_count l.program / 2)) (event_of l.fn.from) l.course.outcomes
    (goal_end l.course.goal) l.initial.log.items (l.count - l.counter) l.here (drop l.used l.course.outcomes)
    l.log.items (vec_len l.log) (vec_capacity l.log)
