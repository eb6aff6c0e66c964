-- The entries after these messages were looked at.
use Rattle.std.proofs.Common.{length}
use Rattle.rvclass.specs.Fetch.{words_of}
use Rattle.salvaging.proofs.EndLemmas.{EndSo}
use Rattle.salvaging.proofs.ending.count_to_end.Given as goal

abbrev pub invariant-loop-entry : goal.invariant-loop-entry
invariant-loop-entry g l = EndSo (words_of l.program) l.mode l.came l.rest l.end l.used

abbrev pub decreases-loop-entry : goal.decreases-loop-entry
decreases-loop-entry g l = length l.rest
