-- So many messages were given up.
use Rattle.live.proofs.Telling.{AreGiven}
use Rattle.live.proofs.giving.give_all.Given as goal

abbrev pub invariant-loop-place : goal.invariant-loop-place
invariant-loop-place g l =
    AreGiven (λ told. g.L.LiveLines.Told l.fn.lines told l.lines) l.fn.runs.items l.slots.items l.place l.runs.items
