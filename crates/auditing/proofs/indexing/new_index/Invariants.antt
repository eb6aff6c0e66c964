-- So many are made, each new.
use Rattle.std.proofs.Common.{◌≡◌, [], replicate}
use Rattle.auditing.specs.steps.Indexing.{fresh}
use Rattle.auditing.proofs.indexing.new_index.Given as goal

abbrev pub invariant-loop-hart : goal.invariant-loop-hart
invariant-loop-hart g l = l.index.items ≡ replicate l.hart (fresh [])
