-- No hart so far is looked for.
use Rattle.std.proofs.Common.{◌<◌, ℕ}
use Rattle.bench.specs.steps.Stopping.{IsSought}
use Rattle.bench.proofs.stopping.first.Given as goal

abbrev pub invariant-loop-hart : goal.invariant-loop-hart
invariant-loop-hart g l = (before : ℕ) → before < l.hart → ¬ IsSought l.sought l.harts l.handed_back before
