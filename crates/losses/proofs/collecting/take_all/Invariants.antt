-- The messages before this one are taken and collected.
use Rattle.std.proofs.Common.{◌≡◌, take, length}
use Rattle.message.specs.Accepted.{newcomers}
use Rattle.losses.specs.Stops.{AreAcceptedLossy, expected_lossy}
use Rattle.losses.specs.steps.Taking.{Collects, HasEachHart}
use Rattle.losses.proofs.collecting.take_all.Given as goal

abbrev pub invariant-loop-place : goal.invariant-loop-place
invariant-loop-place g l = record {
  each_hart : HasEachHart l.collection;
  count : length l.collection.demux ≡ l.harts;
  of_any : Collects l.program l.mode (take l.place l.messages) l.collection;
  accepted : AreAcceptedLossy (newcomers l.harts) (take l.place l.messages);
  expected : l.collection.demux ≡ expected_lossy (newcomers l.harts) (take l.place l.messages);
}
