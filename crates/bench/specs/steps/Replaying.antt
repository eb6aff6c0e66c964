-- The state of a replay.
use Rattle.std.specs.Prelude.{◌≡◌, List, Option}
use Rattle.legalpath.specs.ProgramLog.{ProgramLog}
use Rattle.funnel.specs.Held.{Held}
use Rattle.funnel.specs.declared.turn.Turn.{Turn}
use Rattle.bench.specs.Collected.{Collected}
use Rattle.bench.specs.Replayed.{replayed}
use Rattle.bench.specs.declared.config.Config.{Config}
use Rattle.bench.specs.declared.sender.Sender.{Sender}
use Rattle.bench.specs.declared.stop.Stop.{Stop}
use Rattle.bench.specs.steps.Sending.{AreSending}
use Rattle.bench.specs.steps.Taking.{CameUnlessRefused, LacksSome, NamesRefusedHart}

-- The funnel and the harts are in the state of the funnel machine after these turns. What it took of each hart was
-- decoded, or memory for the hart was refused: then fewer messages were decoded, and the stop names such a hart.
pub record IsReplayed {B : Type 0} (config : Config) (logs : List ProgramLog) (turns : List Turn) (core : Held)
    (senders : List (Sender B)) (collected : Collected) (why : Option Stop) : Type 0 where
  pub sending : AreSending config.period config.mode config.capacity logs
      (replayed config.period config.mode config.capacity logs turns) core senders
  pub keep : collected.keep ≡ config.keep
  pub taken : CameUnlessRefused config.period config.mode logs
      (replayed config.period config.mode config.capacity logs turns).taken collected
  pub lacks : LacksSome (replayed config.period config.mode config.capacity logs turns).taken collected
  pub named : NamesRefusedHart why collected
