-- The messages before these are taken.
use Rattle.std.proofs.Common.{length}
use Rattle.rvclass.specs.Fetch.{words_of}
use Rattle.salvaging.proofs.BeyondLemmas.{BeyondSo}
use Rattle.salvaging.proofs.beyond.take_beyond.Given as goal

abbrev pub invariant-loop-entry : goal.invariant-loop-entry
invariant-loop-entry g l = BeyondSo g.M.Mark.kept (words_of l.program) l.mode l.came l.rest l.fn.outcome l.outcome

abbrev pub decreases-loop-entry : goal.decreases-loop-entry
decreases-loop-entry g l = length l.rest
