-- The events so far are alike, so the count goes on with the others.
use Rattle.std.proofs.Common.{◌≡◌, ◌≤◌, ◌+◌, length, drop}
use Rattle.bench.specs.Verdict.{count_alike}
use Rattle.bench.proofs.verdict.count_alike.Given as goal

abbrev pub invariant-loop-place : goal.invariant-loop-place
invariant-loop-place l = record {
  within : l.place ≤ length l.log;
  counted : count_alike l.decoded l.log ≡ l.place + count_alike (drop l.place l.decoded) (drop l.place l.log);
}
