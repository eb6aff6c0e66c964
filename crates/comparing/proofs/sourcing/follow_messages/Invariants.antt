-- The messages so far are followed.
use Rattle.std.proofs.Common.{◌≤◌, ◌+◌, length}
use Rattle.comparing.proofs.FollowedHarts.{HasFollowed}
use Rattle.comparing.proofs.sourcing.follow_messages.Given as goal

abbrev pub invariant-loop-message : goal.invariant-loop-message
invariant-loop-message g l = record {
  has : HasFollowed l.what l.fn.left l.left l.fn.trails.items l.number l.offset l.stopped l.trails.items;
  few : l.number + length l.left ≤ length l.fn.left;
  room : l.offset + length l.left ≤ l.what.offset + length l.fn.left;
}

abbrev pub decreases-loop-message : goal.decreases-loop-message
decreases-loop-message g l = length l.left
