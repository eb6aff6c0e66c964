-- What a collector has of messages that workers sent.
use Rattle.std.specs.Prelude.{ℕ, ◌≡◌, ◌⊎◌, Contains, List, Some, length, map, slice_get}
use Rattle.std.specs.declared.thread.PromisedHandle.{PromisedHandle}
use Rattle.legalpath.specs.ProgramLog.{ProgramLog}
use Rattle.encoder.specs.SourceAt.{SourceAt}
use Rattle.message.specs.OfHart.{of_hart}
use Rattle.message.specs.declared.message.Message.{Message}
use Rattle.funnel.specs.Ends.{FunnelId}
use Rattle.bench.specs.Collected.{Collected}
use Rattle.bench.specs.Working.{CarryFirst}
use Rattle.bench.specs.declared.config.Config.{Config}
use Rattle.bench.specs.declared.worker.Sending.{Sending}
use Rattle.bench.specs.declared.worker.Work.{Work}
use Rattle.bench.specs.steps.Taking.{IsCutOff, IsTakenOf}

-- The harts whose logs these workers send.
abbrev pub harts_of : {S : Type 0} → List (PromisedHandle Work (Sending S)) → List ℕ
harts_of workers = map (λ w. w.promise.port.value.hart) workers

-- The worker has a port of this funnel, and sends the log of its port's hart, at the period and in the mode of this
-- configuration. The function says where a worker's source is.
pub record IsWorkerOf {S : Type 0} (at : S → SourceAt) (funnel : FunnelId) (config : Config) (logs : List ProgramLog)
    (worker : PromisedHandle Work (Sending S)) : Type 0 where
  pub port : worker.promise.port.value.funnel ≡ funnel
  pub log : slice_get logs worker.promise.port.value.hart ≡ Some (at worker.promise.source.value).log
  pub period : (at worker.promise.source.value).period ≡ config.period
  pub mode : (at worker.promise.source.value).mode ≡ config.mode

-- The hart's worker was started, and where the messages that were taken of the hart carry the first payloads of its
-- log, they came, or memory for the hart was refused. Or its thread was refused: fewer of its messages came than were
-- taken, or none was taken.
abbrev pub IsGathered : Config → ProgramLog → List ℕ → List Message → ℕ → Collected → Type 0
IsGathered config log started taken hart collected =
    (Contains started hart
    × (CarryFirst config.period config.mode log taken
    → IsTakenOf config.period config.mode log (length taken) hart collected))
    ⊎ IsCutOff config.period config.mode log (length taken) hart collected

-- The collector has these logs. The messages that were taken of each hart are gathered, where workers of these harts
-- were started.
pub record AreGathered (config : Config) (logs : List ProgramLog) (started : List ℕ) (taken : List Message)
    (collected : Collected) : Type 0 where
  pub own : collected.logs ≡ logs
  pub each : (hart : ℕ) (log : ProgramLog) → slice_get logs hart ≡ Some log
      → IsGathered config log started (of_hart hart taken) hart collected
