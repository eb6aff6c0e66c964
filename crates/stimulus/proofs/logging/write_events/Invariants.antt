-- The rows of the events so far are written or held, and the buffer is as large as before.
use Rattle.std.specs.Prelude.{◌≤◌, vec_capacity, []}
use Rattle.rvclass.specs.Fetch.{words_of}
use Rattle.stimulus.specs.Walked.{HasWalked}
use Rattle.stimulus.specs.declared.walk.Walk.{Walk}
use Rattle.stimulus.proofs.RowLemmas.{Reached}
use Rattle.stimulus.proofs.logging.write_events.Given as goal

abbrev pub invariant-loop : goal.invariant-loop
invariant-loop g l =
    ((start : Walk) → HasWalked (words_of l.program) start [] l.fn.hart
    → Reached (words_of l.program) start l.counter l.hart l.fn.room.items l.room.items (g.W.Write.contents l.fn.sink)
    (g.W.Write.contents l.sink))
    × (vec_capacity l.fn.room ≤ vec_capacity l.room)
