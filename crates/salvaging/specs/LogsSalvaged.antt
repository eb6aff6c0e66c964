-- What is salvaged of messages of legal logs.
use Rattle.std.specs.Prelude.{ℕ, ◌≡◌, ◌↔◌, ◌+◌, ◌-◌, All, true, Contains, List, [], ◌∷◌, Some, length, slice_get}
use Rattle.retire.specs.declared.event.Event.{Event}
use Rattle.rvclass.specs.Fetch.{words_of}
use Rattle.rvclass.specs.Image.{Image}
use Rattle.rvclass.specs.Words.{Words}
use Rattle.legalpath.specs.ProgramLog.{ProgramLog}
use Rattle.payload.specs.declared.mode.Mode.{Mode}
use Rattle.encoder.specs.Packets.{packets}
use Rattle.message.specs.declared.message.Message.{Message}
use Rattle.losses.specs.Apart.{AreRising}
use Rattle.losses.specs.Losses.{numbers_of}
use Rattle.losses.specs.Parts.{LogPart, parts}
use Rattle.losses.specs.Parts.{Missing as LogMissing, Events as LogEvents}
use Rattle.salvaging.specs.LeftParts.{LeftPart, Missing, Events}
use Rattle.salvaging.specs.PartsIn.{parts_in}
use Rattle.salvaging.specs.declared.salvaged.SalvagedHart.{SalvagedHart}
use Rattle.salvaging.specs.declared.salvaged.Salvaged.{Salvaged}

-- These numbers are the ones among those that came, in rising order and each once.
pub record AreInOrder (came numbers : List ℕ) : Type 0 where
  pub rising : AreRising 0 numbers
  pub some : All (Contains came) numbers
  pub all : All (Contains numbers) came

-- The parts are these of a log, each in its place. So none of them is bad or doubtful.
abbrev pub AreLogParts : List LeftPart → List LogPart → Type 0
AreLogParts [] [] = Unit {0}
AreLogParts (Missing count ∷ left) (LogMissing missing ∷ parts) = (count ≡ missing) × AreLogParts left parts
AreLogParts (Events first last events ∷ left) (LogEvents stretch ∷ parts) =
    (events ≡ stretch) × AreLogParts left parts
AreLogParts left parts = ⊥

-- The number of the packet that closes a log: its last one.
abbrev pub closing_number : Words → ℕ → Mode → List Event → ℕ
closing_number words period mode log = length (packets words period mode log) - 1

-- This is salvaged of a legal log, of which messages with these numbers came. The parts are those of the log by the
-- numbers in rising order. The number of copies is that of the messages less that of those numbers. The hart is closed
-- if and only if the message of the log's closing packet came.
pub record IsLogSalvaged {A : Type 0} (words : Words) (period : ℕ) (mode : Mode) (log : List Event) (came : List ℕ)
    (hart : SalvagedHart A) : Type 0 where
  pub numbers : List ℕ
  pub in_order : AreInOrder came numbers
  pub parts : AreLogParts (parts_in hart.parts.items) (parts words period mode log numbers)
  pub copies : hart.copies + length numbers ≡ length came
  pub closed : (hart.closed ≡ true) ↔ Contains came (closing_number words period mode log)

-- This is salvaged of messages of legal logs, each of one hart and in its own mode. There is no stranger.
pub record AreLogsSalvaged {A : Type 0} (program : Image) (period : ℕ) (own : ℕ → Mode) (logs : List ProgramLog)
    (messages : List Message) (salvaged : Salvaged A) : Type 0 where
  pub count : length salvaged.harts.items ≡ length logs
  pub each : (hart : ℕ) (log : ProgramLog) (one : SalvagedHart A) → slice_get logs hart ≡ Some log
      → slice_get salvaged.harts.items hart ≡ Some one
      → IsLogSalvaged (words_of program) period (own hart) log.events (numbers_of hart messages) one
  pub strangers : salvaged.strangers ≡ 0
