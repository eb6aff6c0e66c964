-- Messages of legal logs, in any order and each any number of times.
use Rattle.std.specs.Prelude.{ℕ, ◌≡◌, ◌⊎◌, ◌<◌, All, Contains, List, [], Some, length, slice_get}
use Rattle.rvclass.specs.Image.{Image}
use Rattle.legalpath.specs.ProgramLog.{ProgramLog, IsLegalLog}
use Rattle.payload.specs.declared.mode.Mode.{Mode}
use Rattle.encoder.specs.Payloads.{payloads}
use Rattle.message.specs.Numbered.{messages_from}
use Rattle.message.specs.OfHart.{of_hart}
use Rattle.message.specs.declared.message.Message.{Message}
use Rattle.losses.specs.Losses.{numbers_of}

-- The messages are of legal logs of a program, one log a hart, encoded at this period and each in a mode of its own.
-- Each is one of the messages of its hart's log. They come in any order, each any number of times, and some may not
-- come at all. A hart's own mode is the one handed in; or its message with number 0 came, which announces the mode; or
-- none of its messages came.
pub record AreFromLogs (program : Image) (period : ℕ) (handed : Mode) (own : ℕ → Mode) (logs : List ProgramLog)
    (messages : List Message) : Type 0 where
  pub legal : All IsLegalLog logs
  pub same : All (λ (log : ProgramLog). log.program ≡ program) logs
  pub known : All (λ (message : Message). message.hart < length logs) messages
  pub sent : (hart : ℕ) (log : ProgramLog) → slice_get logs hart ≡ Some log
      → All (Contains (messages_from hart 0 (payloads period (own hart) log))) (of_hart hart messages)
  pub mode_known : (hart : ℕ) → hart < length logs
      → (handed ≡ own hart) ⊎ (Contains (numbers_of hart messages) 0 ⊎ (of_hart hart messages ≡ []))
