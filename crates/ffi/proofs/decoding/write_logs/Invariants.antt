-- The logs of the first harts are written, and the buffer keeps its size.
use Rattle.std.proofs.Common.{◌≤◌, vec_capacity}
use Rattle.retire.specs.declared.write.TheConstants.{LOG_ROOM}
use Rattle.ffi.proofs.HartsWritten.{AreWritten}
use Rattle.ffi.proofs.decoding.write_logs.Given as goal

abbrev pub invariant-loop-place : goal.invariant-loop-place
invariant-loop-place l = record {
  written : AreWritten l.lists l.closed l.place l.text.items l.ends.items;
  large : LOG_ROOM ≤ vec_capacity l.room;
}
