-- So many outcomes were made, of which nothing came, and the logs so far are legal.
use Rattle.std.proofs.Common.{◌≡◌, ◌≤◌, ◌<◌, ℕ, get_or, length, replicate, vec_len}
use Rattle.std.specs.Vec.{vec_capacity}
use Rattle.legalpath.specs.ProgramLog.{IsLegalLog, ProgramLog}
use Rattle.bench.specs.steps.Collecting.{nothing, taken_in}
use Rattle.bench.proofs.collecting.outcomes_of.Given as goal

abbrev pub invariant-loop-hart : goal.invariant-loop-hart
invariant-loop-hart g l = record {
  harts : taken_in l.harts.items ≡ replicate l.hart nothing;
  count : vec_len l.harts ≡ l.hart;
  room : length l.logs ≤ vec_capacity l.harts;
  legal : (k : ℕ) (d : ProgramLog) → k < l.hart → IsLegalLog (get_or l.logs k d);
}
