-- Logs that come back complete.
use Rattle.std.specs.Prelude.{ℕ, ◌≡◌, All, Bool, true, List, Option, Some, None, length, map, replicate}
use Rattle.retire.specs.Log.{most_long_rows}
use Rattle.retire.specs.declared.event.Event.{Event}
use Rattle.rvclass.specs.Image.{Image}
use Rattle.legalpath.specs.LegalUpTo.{IsLegalUpTo}
use Rattle.legalpath.specs.ProgramLog.{ProgramLog}
use Rattle.payload.specs.declared.mode.Mode.{Mode}
use Rattle.decoder.specs.declared.fault.DecodeFault.TheVariants.{Memory}
use Rattle.message.specs.declared.header.Version.{Version}
use Rattle.message.specs.declared.header.Version.TheVariants.{One, Two}
use Rattle.captures.specs.Versions.{MayStart, capture_of, header_of}
use Rattle.captures.specs.declared.outcome.CaptureFault.{CaptureFault}
use Rattle.captures.specs.declared.outcome.CaptureFault.TheVariants as fault

-- The log is legal for its program and has at most 4294967295 events, as `IsLegalUpTo` has it.
abbrev pub IsLongLegalLog : ProgramLog → Type 0
IsLongLegalLog log = IsLegalUpTo most_long_rows log.program log.events

-- The logs are legal, long ones among them, and all of this program. The bytes are the capture, in this version, of all
-- their messages at this period and in this mode, one hart after the other. What comes before the messages has numbers
-- within their ranges.
pub record IsCaptureOf (program : Image) (version : Version) (period : ℕ) (mode : Mode) (logs : List ProgramLog)
    (bytes : List ℕ) : Type 0 where
  pub legal : All IsLongLegalLog logs
  pub same : All (λ (log : ProgramLog). log.program ≡ program) logs
  pub start : MayStart version (header_of period mode logs)
  pub whole : bytes ≡ capture_of version period mode logs

-- In version 1 as many harts are asked for as there are logs. In version 2 any number may be: the header has the count.
abbrev pub AreAskedFor : Version → ℕ → List ProgramLog → Type 0
AreAskedFor One harts logs = length logs ≡ harts
AreAskedFor Two harts logs = Unit {0}

-- Decoding stopped where an allocation failed.
abbrev pub IsMemory : CaptureFault → Type 0
IsMemory (fault.Decode why) = why ≡ Memory
IsMemory other = ⊥

-- Decoding stopped where an allocation failed; or it came to the end, the lists are the events of the logs, and every
-- hart is closed.
abbrev pub AreReturned : List ProgramLog → List (List Event) → List Bool → Option (ℕ × CaptureFault) → Type 0
AreReturned logs lists closed None =
    (lists ≡ map (λ (log : ProgramLog). log.events) logs) × (closed ≡ replicate (length logs) true)
AreReturned logs lists closed (Some stop) = IsMemory stop.1
