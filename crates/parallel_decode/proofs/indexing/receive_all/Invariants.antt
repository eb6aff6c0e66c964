-- The messages so far were received, each of a byte at least.
use Rattle.std.proofs.Common.{◌≡◌, ◌≤◌, ◌+◌, length}
use Rattle.rvclass.specs.Fetch.{words_of}
use Rattle.parallel_decode.proofs.SurveyLemmas.{Reaches}
use Rattle.parallel_decode.proofs.indexing.receive_all.Given as goal

abbrev pub invariant-loop-message : goal.invariant-loop-message
invariant-loop-message g l = record {
  reaches : Reaches l.selection.range (words_of l.selection.program.now) (length l.fn.owns.items) l.announced
      l.fn.messages l.messages l.received l.owns.items;
  counted : l.received + length l.messages ≤ length l.fn.messages;
  harts : length l.owns.items ≡ length l.fn.owns.items;
}

abbrev pub decreases-loop-message : goal.decreases-loop-message
decreases-loop-message g l = length l.messages
