-- The numbers of the first events are written.
use Rattle.ffi.proofs.WrittenInTurn.{AreWritten}
use Rattle.ffi.specs.Events.{numbers_of_event}
use Rattle.ffi.proofs.handing.hand_out_events.Given as goal

abbrev pub invariant-loop-place : goal.invariant-loop-place
invariant-loop-place l = AreWritten numbers_of_event l.given l.fn.events l.place l.events
