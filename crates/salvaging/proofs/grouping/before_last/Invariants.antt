-- The messages from this place on are read.
use Rattle.salvaging.proofs.LastRead.{ReadsLast}
use Rattle.salvaging.proofs.grouping.before_last.Given as goal

abbrev pub invariant-loop-at : goal.invariant-loop-at
invariant-loop-at l = ReadsLast l.came l.last.message.now.number l.at
