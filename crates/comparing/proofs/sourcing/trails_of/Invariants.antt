-- The trails so far, and room for the rest.
use Rattle.std.proofs.Common.{◌≡◌, ◌≤◌, [], All, length, take}
use Rattle.std.specs.Vec.{vec_capacity}
use Rattle.rvclass.specs.Words.{Words}
use Rattle.comparing.specs.declared.trail.Trail.{Trail}
use Rattle.comparing.specs.steps.Following.{IsFollowed}
use Rattle.comparing.specs.steps.Sourcing.{harts_of}
use Rattle.comparing.proofs.sourcing.trails_of.Given as goal

abbrev pub invariant-loop-hart : goal.invariant-loop-hart
invariant-loop-hart g l = record {
  count : length l.trails.items ≡ l.hart-index;
  room : length l.harts ≤ vec_capacity l.trails;
  harts : harts_of l.trails.items ≡ take l.hart-index l.harts;
  none : All (λ (trail : Trail). (words : Words) → IsFollowed words [] trail) l.trails.items;
}
