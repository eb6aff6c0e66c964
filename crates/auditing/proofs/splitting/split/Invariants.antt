-- The first messages are split.
use Rattle.std.proofs.Common.{take}
use Rattle.auditing.specs.Split.{AreSplit}
use Rattle.auditing.proofs.splitting.split.Given as goal

abbrev pub invariant-loop-message : goal.invariant-loop-message
invariant-loop-message g l = AreSplit l.by l.harts (take l.message-index l.messages) l.lists.items
