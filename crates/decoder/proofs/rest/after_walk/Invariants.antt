-- The loop keeps what was appended of the walk, and what is left of it.
use Rattle.std.proofs.Common.{◌≡◌, ◌+◌, drop, vec_len, vec_capacity}
use Rattle.rvclass.specs.Fetch.{words_of}
use Rattle.decoder.specs.steps.Rests.{Handing, walk_events}
use Rattle.decoder.specs.steps.Walks.{goal_end}
use Rattle.decoder.proofs.rest.after_walk.Given as goal

abbrev pub invariant-loop : goal.invariant-loop
invariant-loop g l =
    (vec_capacity l.piece ≡ vec_capacity l.initial.piece)
    × (vec_len l.piece ≡ vec_len l.initial.piece + l.counter)
    × Handing (words_of l.program) (goal_end l.walk.course.goal) l.initial.piece.items
    (walk_events (words_of l.program) l.walk) l.walk.count l.counter l.here (drop l.used l.walk.course.outcomes)
    l.piece.items
