-- So many lists are made, each empty.
use Rattle.std.proofs.Common.{◌≡◌, [], replicate}
use Rattle.auditing.proofs.splitting.empty.Given as goal

abbrev pub invariant-loop-hart : goal.invariant-loop-hart
invariant-loop-hart g l = l.lists.items ≡ replicate l.hart []
