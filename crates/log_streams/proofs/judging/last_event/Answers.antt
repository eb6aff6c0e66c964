-- The last event is found by its place, which is a lemma by recursion over the list.
use Rattle.std.proofs.Common.{sym}
use Rattle.log_streams.proofs.LastLemmas.{last_or-place}
use Rattle.log_streams.proofs.judging.last_event.Goals as goal

pub returns-in-Some : goal.returns-in-Some
returns-in-Some c = sym (last_or-place c.args.before c.args.piece.now c.in-Some.last.now c.in-Some.ensures.value)
