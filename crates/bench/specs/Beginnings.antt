-- The outcomes of harts that send through a funnel.
use Rattle.std.specs.Prelude.{ℕ, ◌≡◌, ◌≤◌, ◌<◌, All, Bool, true, false, IsFalse, IsSomeAnd, IsTrue, List, Option, Some}
use Rattle.std.specs.Prelude.{None, length, slice_get}
use Rattle.legalpath.specs.ProgramLog.{ProgramLog}
use Rattle.message.specs.OfHart.{of_hart}
use Rattle.message.specs.declared.message.Message.{Message}
use Rattle.funnel.specs.Ends.{OutletView}
use Rattle.bench.specs.Got.{HasGot, got_of}
use Rattle.bench.specs.Working.{CarryFirst}
use Rattle.bench.specs.declared.config.Config.{Config}
use Rattle.bench.specs.declared.outcome.HartOutcome.{HartOutcome}
use Rattle.bench.specs.declared.stop.Stop.{Stop}
use Rattle.bench.specs.declared.stop.Stop.TheVariants as stop

-- There is an outcome for each log. The outcome of each hart is that of the first packets of its log, some number of
-- them: each once, in order, none after the closing one. They decode to a prefix of the log, and to the complete log
-- where the closing packet came.
pub record AreBeginnings {A : Type 0} (config : Config) (logs : List ProgramLog) (harts : List (HartOutcome A))
    : Type 0 where
  pub count : length harts ≡ length logs
  pub each : (hart : ℕ) (log : ProgramLog) (came : HartOutcome A) → slice_get logs hart ≡ Some log
      → slice_get harts hart ≡ Some came
      → (count : ℕ) × HasGot config.period config.mode config.keep log count (got_of came)

-- As many messages of a hart were decoded as were taken, or, where memory or its thread was refused for the hart, at
-- most as many.
abbrev pub CameOf : Bool → ℕ → ℕ → Type 0
CameOf true taken count = count ≤ taken
CameOf false taken count = count ≡ taken

-- These messages were taken out of a funnel. The outcome of each hart is that of the first packets of its log: as many
-- as the hart's messages among these, or, where memory or its thread was refused for the hart, at most as many.
abbrev pub AreThoseTaken : {A : Type 0} → Config → List ProgramLog → List Message → List (HartOutcome A) → Type 0
AreThoseTaken {A} config logs taken harts =
    (hart : ℕ) (log : ProgramLog) (came : HartOutcome A) → slice_get logs hart ≡ Some log
    → slice_get harts hart ≡ Some came
    → (count : ℕ) × HasGot config.period config.mode config.keep log count (got_of came)
    × CameOf came.refused (length (of_hart hart taken)) count

-- The messages of each hart among these carry the first payloads of its log, in order, unless memory or its thread was
-- refused for the hart.
abbrev pub AreCarried : {A : Type 0} → Config → List ProgramLog → List Message → List (HartOutcome A) → Type 0
AreCarried {A} config logs taken harts =
    (hart : ℕ) (log : ProgramLog) (came : HartOutcome A) → slice_get logs hart ≡ Some log
    → slice_get harts hart ≡ Some came → IsFalse came.refused
    → CarryFirst config.period config.mode log (of_hart hart taken)

-- What was decoded came through a channel that holds as many messages as the configuration says: it is what its outlet
-- took, unless memory or its thread was refused for the hart.
abbrev pub CameThrough : {A : Type 0} → Config → List ProgramLog → OutletView → List (HartOutcome A) → Type 0
CameThrough {A} config logs outlet harts =
    (outlet.room ≡ config.capacity) × AreThoseTaken config logs outlet.taken harts
    × AreCarried config logs outlet.taken harts

-- If an allocation failed for a hart, fewer packets of it were decoded than messages of it are among these.
abbrev pub LackSome : {A : Type 0} → List Message → List (HartOutcome A) → Type 0
LackSome {A} taken harts =
    (hart : ℕ) (came : HartOutcome A) → slice_get harts hart ≡ Some came → IsTrue came.refused
    → came.taken < length (of_hart hart taken)

-- If memory or its thread was refused for a hart, and messages of it are among these, fewer packets of it were decoded.
abbrev pub LackSomeTaken : {A : Type 0} → List Message → List (HartOutcome A) → Type 0
LackSomeTaken {A} taken harts =
    (hart : ℕ) (came : HartOutcome A) → slice_get harts hart ≡ Some came → IsTrue came.refused
    → 0 < length (of_hart hart taken) → came.taken < length (of_hart hart taken)

-- There is no stop if and only if no allocation for a hart failed. Otherwise the stop is of the kind `Memory`. It names
-- a hart for which an allocation failed, and whose closing packet did not come.
abbrev pub NamesRefused : {A : Type 0} → Option Stop → List (HartOutcome A) → Type 0
NamesRefused None harts = All (λ hart. IsFalse hart.refused) harts
NamesRefused (Some (stop.Memory hart)) harts =
    IsSomeAnd (slice_get harts hart) (λ came. IsTrue came.refused × IsFalse came.closed)
NamesRefused (Some (stop.HandedBack hart)) harts = ⊥
NamesRefused (Some (stop.Ended hart)) harts = ⊥
