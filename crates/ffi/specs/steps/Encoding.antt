-- Logs are encoded.
use Rattle.std.specs.Prelude.{ℕ, ◌≡◌, ◌++◌, List}
use Rattle.captures.specs.Messages.{messages_of_harts}
use Rattle.encoder.specs.Payloads.{payloads}
use Rattle.legalpath.specs.ProgramLog.{ProgramLog}
use Rattle.message.specs.Capture.{capture}
use Rattle.message.specs.Numbered.{messages_from}
use Rattle.payload.specs.declared.mode.Mode.{Mode}

-- The bytes of the messages of the hart that has the log are added.
abbrev pub AddsLog : ℕ → ℕ → Mode → List ℕ → List ℕ → ProgramLog → Type 0
AddsLog hart period mode old new log = new ≡ old ++ capture (messages_from hart 0 (payloads period mode log))

-- The bytes of the messages of the harts that have the logs are added.
abbrev pub AddsLogs : ℕ → Mode → List ℕ → List ℕ → List ProgramLog → Type 0
AddsLogs period mode old new logs = new ≡ old ++ capture (messages_of_harts period mode 0 logs)
