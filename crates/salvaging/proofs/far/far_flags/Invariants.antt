-- The counts so far are above the bound or not.
use Rattle.std.proofs.Common.{◌≡◌, ◌≤◌, length, map, take}
use Rattle.std.specs.Vec.{vec_capacity}
use Rattle.salvaging.specs.steps.Farness.{is_above}
use Rattle.salvaging.proofs.far.far_flags.Given as goal

abbrev pub invariant-loop-count : goal.invariant-loop-count
invariant-loop-count g l = record {
  flags : l.far.items ≡ map (is_above l.bound) (take l.count-index l.counts);
  room : length l.counts ≤ vec_capacity l.far;
}
