-- Whether the logs of the harts so far came back whole.
use Rattle.std.proofs.Common.{◌≡◌, map, take}
use Rattle.bench.specs.Got.{got_of}
use Rattle.bench.specs.Report.{are_whole}
use Rattle.bench.proofs.reporting.are_whole.Given as goal

abbrev pub invariant-loop-hart : goal.invariant-loop-hart
invariant-loop-hart g l = l.whole ≡ are_whole (take l.hart (map got_of l.harts)) (take l.hart l.logs)
