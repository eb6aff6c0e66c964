-- What a generated capture decodes to, and one of logs whose messages are mixed.
use Rattle.std.specs.Prelude.{◌≡◌, ◌++◌, All, ℕ, Bool, List, Option, Some, None, length}
use Rattle.retire.specs.declared.event.Event.{Event}
use Rattle.rvclass.specs.Image.{Image}
use Rattle.legalpath.specs.ProgramLog.{ProgramLog}
use Rattle.message.specs.Capture.{capture}
use Rattle.message.specs.Header.{IsHeader}
use Rattle.message.specs.OfHart.{of_hart}
use Rattle.message.specs.declared.header.Header.{Header}
use Rattle.message.specs.declared.header.Version.{Version}
use Rattle.message.specs.declared.header.Version.TheVariants.{One, Two}
use Rattle.message.specs.declared.message.Message.{Message}
use Rattle.captures.specs.Messages.{messages_of_harts}
use Rattle.captures.specs.Returned.{AreReturned, IsLongLegalLog}
use Rattle.captures.specs.Versions.{header_of, start_bytes}
use Rattle.captures.specs.declared.outcome.CaptureFault.{CaptureFault}
use Rattle.payload.specs.declared.mode.Mode.{Mode}

-- The header of a capture of this version, if it has one.
abbrev pub header_in : Version → Header → Option Header
header_in One header = None
header_in Two header = Some header

-- Each hart sent among the messages those of a legal log of the program, and no other. The lists are the events of these
-- logs, and every hart is closed; or decoding stopped where an allocation failed.
pub record AreItsLogs (program : Image) (header : Header) (messages : List Message) (lists : List (List Event))
    (closed : List Bool) (stop : Option (ℕ × CaptureFault)) : Type 0 where
  pub logs : List ProgramLog
  pub count : length logs ≡ header.harts
  pub legal : All IsLongLegalLog logs
  pub same : All (λ (log : ProgramLog). log.program ≡ program) logs
  pub sent : (hart : ℕ)
      → of_hart hart messages ≡ of_hart hart (messages_of_harts header.period header.mode 0 logs)
  pub returned : AreReturned logs lists closed stop

-- The bytes are a capture of legal logs with these messages, of which each hart's are those of its log, in their order,
-- however the harts are mixed.
pub record IsOfMixedLogs (period : ℕ) (mode : Mode) (version : Version) (logs : List ProgramLog) (bytes : List ℕ)
    (messages : List Message) : Type 0 where
  pub start : IsHeader (header_of period mode logs)
  pub legal : All IsLongLegalLog logs
  pub whole : bytes ≡ start_bytes version (header_of period mode logs) ++ capture messages
  pub same : (hart : ℕ) → of_hart hart messages ≡ of_hart hart (messages_of_harts period mode 0 logs)
