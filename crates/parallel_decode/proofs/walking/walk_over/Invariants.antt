-- The messages so far were walked.
use Rattle.std.proofs.Common.{◌-◌, ◌≤◌, List, length}
use Rattle.message.specs.declared.message.Message.{Message}
use Rattle.parallel_decode.specs.steps.Walked.{AreWalked}
use Rattle.parallel_decode.proofs.walking.walk_over.Given as goal

abbrev pub invariant-loop-walk : goal.invariant-loop-walk
invariant-loop-walk g l = record {
  messages : List Message;
  walked : AreWalked l.range l.harts l.bytes messages l.walk.places.items l.walk.place l.walk.passed;
  counted : l.walk.passed ≤ l.walk.place;
}

abbrev pub decreases-loop-walk : goal.decreases-loop-walk
decreases-loop-walk g l = length l.bytes - l.walk.place
