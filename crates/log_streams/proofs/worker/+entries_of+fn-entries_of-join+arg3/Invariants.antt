use Rattle.std.proofs.Common.{◌+◌, ◌*◌}
use Rattle.log_streams.proofs.worker.+entries_of+fn-entries_of-join+arg3.Given as goal

-- Each call has a thread less.
abbrev pub decreases-entries_of : goal.decreases-entries_of
decreases-entries_of g l = 2 * l.threads

abbrev pub decreases-join+arg3 : goal.decreases-join+arg3
decreases-join+arg3 g l = 2 * l.fewer + 1
