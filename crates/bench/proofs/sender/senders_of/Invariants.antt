-- There is a sender for each log so far, and room for the others.
use Rattle.std.proofs.Common.{◌≡◌, ◌≤◌, length, take, vec_capacity}
use Rattle.bench.specs.steps.Sending.{AreNewSenders}
use Rattle.bench.proofs.sender.senders_of.Given as goal

abbrev pub invariant-loop-place : goal.invariant-loop-place
invariant-loop-place g l = record {
  counted : length l.senders.items ≡ l.place;
  room : length l.logs ≤ vec_capacity l.senders;
  each : AreNewSenders l.period l.mode (take l.place l.logs) l.senders.items;
}
