-- The harts so far with the messages that their rows come from, and room for the rest.
use Rattle.std.proofs.Common.{◌≡◌, ◌≤◌, length, map, take}
use Rattle.std.specs.Vec.{vec_capacity}
use Rattle.comparing.specs.steps.Sourcing.{sourced_by}
use Rattle.comparing.proofs.sourcing.sourced_of.Given as goal

abbrev pub invariant-loop-trail : goal.invariant-loop-trail
invariant-loop-trail g l = record {
  count : length l.sourced.items ≡ l.trail-index;
  room : length l.trails ≤ vec_capacity l.sourced;
  are : l.sourced.items ≡ map (sourced_by l.stopped) (take l.trail-index l.trails);
}
