-- What a collector has of the messages that were taken of a funnel.
use Rattle.std.specs.Prelude.{ℕ, ◌≡◌, ◌≤◌, ◌<◌, ◌⊎◌, ◌∷◌, true, IsTrue, List, [], Option, Some, None, length, slice_get}
use Rattle.rvclass.specs.Fetch.{words_of}
use Rattle.legalpath.specs.ProgramLog.{ProgramLog}
use Rattle.payload.specs.declared.mode.Mode.{Mode}
use Rattle.encoder.specs.Packets.{packets}
use Rattle.message.specs.OfHart.{of_hart}
use Rattle.message.specs.declared.message.Message.{Message}
use Rattle.bench.specs.Collected.{Collected, HasCollected, HasOutcome, IsMessageOf, IsRefusedHart, Taken}
use Rattle.bench.specs.Got.{got_after, kept}
use Rattle.bench.specs.declared.stop.Stop.{Stop}
use Rattle.bench.specs.declared.stop.Stop.TheVariants as stop

-- Memory for the hart was refused. Fewer of its messages came than were taken, or none was taken, and not all of its
-- log's came.
pub record IsCutOff (period : ℕ) (mode : Mode) (log : ProgramLog) (taken hart : ℕ) (collected : Collected)
    : Type 0 where
  pub count : ℕ
  pub within : count ≤ taken
  pub lacks : 0 < taken → count < taken
  pub few : count < length (packets (words_of log.program) period mode log.events)
  pub came : HasOutcome hart (kept collected.keep (got_after period mode log count)) true collected

-- All messages of the hart that were taken came, this many, or memory for the hart was refused.
abbrev pub IsTakenOf : ℕ → Mode → ProgramLog → ℕ → ℕ → Collected → Type 0
IsTakenOf period mode log taken hart collected =
    HasCollected period mode log taken hart collected ⊎ IsCutOff period mode log taken hart collected

-- The collector has these logs. The messages of each hart among these came, unless memory for the hart was refused.
pub record CameUnlessRefused (period : ℕ) (mode : Mode) (logs : List ProgramLog) (taken : List Message)
    (collected : Collected) : Type 0 where
  pub own : collected.logs ≡ logs
  pub each : (hart : ℕ) (log : ProgramLog) → slice_get logs hart ≡ Some log
      → IsTakenOf period mode log (length (of_hart hart taken)) hart collected

-- Where memory for a hart was refused, fewer messages of it came than were taken.
abbrev pub LacksSome : List Message → Collected → Type 0
LacksSome taken collected =
    (hart : ℕ) (log : ProgramLog) (at : Taken) → slice_get collected.logs hart ≡ Some log
    → slice_get collected.harts hart ≡ Some at → IsTrue at.refused → at.taken < length (of_hart hart taken)

-- The message is of a hart with a log, and the next one of it after those that were taken.
pub record IsNext (period : ℕ) (mode : Mode) (logs : List ProgramLog) (taken : List Message) (message : Message)
    : Type 0 where
  pub log : ProgramLog
  pub known : slice_get logs message.hart ≡ Some log
  pub own : IsMessageOf period mode log (length (of_hart message.hart taken)) message

-- Where messages wait, the front one is the next of its hart.
abbrev pub IsFrontNext : ℕ → Mode → List ProgramLog → List Message → List Message → Type 0
IsFrontNext period mode logs taken [] = Unit {0}
IsFrontNext period mode logs taken (message ∷ waiting) = IsNext period mode logs taken message

-- The messages that were taken of a funnel came, unless memory for their hart was refused, and the front one of those
-- that wait is the next of its hart.
pub record IsReady (waiting : List Message) (collected : Collected) : Type 0 where
  pub period : ℕ
  pub mode : Mode
  pub logs : List ProgramLog
  pub taken : List Message
  pub came : CameUnlessRefused period mode logs taken collected
  pub next : IsFrontNext period mode logs taken waiting

-- There is no stop if and only if no allocation for a hart failed. Otherwise the stop is of the kind `Memory` and names
-- a hart for which an allocation failed.
abbrev pub NamesRefusedHart : Option Stop → Collected → Type 0
NamesRefusedHart None collected = (hart : ℕ) → hart < length collected.logs → ¬ IsRefusedHart hart collected
NamesRefusedHart (Some (stop.Memory hart)) collected = (hart < length collected.logs) × IsRefusedHart hart collected
NamesRefusedHart (Some (stop.HandedBack hart)) collected = ⊥
NamesRefusedHart (Some (stop.Ended hart)) collected = ⊥
