-- The first events of the walk are written.
use Rattle.rvclass.specs.Fetch.{words_of}
use Rattle.ffi.proofs.EventsGiven.{AreGiven}
use Rattle.ffi.proofs.generating.fill_events.Given as goal

abbrev pub invariant-loop-place : goal.invariant-loop-place
invariant-loop-place l = AreGiven (words_of l.program) l.fn.walk l.fn.events l.place l.walk l.events
