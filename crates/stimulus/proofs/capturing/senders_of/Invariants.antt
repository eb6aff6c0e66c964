use Rattle.rvclass.specs.Words.{Words}
use Rattle.stimulus.specs.Mixed.{plan_of}
use Rattle.stimulus.proofs.SendLemmas.{HaveSentNone}
use Rattle.stimulus.proofs.capturing.senders_of.Given as goal

-- No hart before this one has sent a message.
abbrev pub invariant-loop-hart : goal.invariant-loop-hart
invariant-loop-hart g l = (words : Words) → HaveSentNone words (plan_of l.program l.asked) l.hart l.senders.items
