-- Each part stands where the funnel machine does after the turns so far.
use Rattle.std.proofs.Common.{take}
use Rattle.bench.specs.steps.Replaying.{IsReplayed}
use Rattle.bench.proofs.replaying.replay.Given as goal

abbrev pub invariant-loop-turn : goal.invariant-loop-turn
invariant-loop-turn g l =
    IsReplayed l.fn.config l.logs (take l.turn-index l.turns) l.core l.senders.items l.collector l.stop
