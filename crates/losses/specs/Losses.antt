-- Messages of harts' logs, where some messages are lost.
use Rattle.std.specs.Prelude.{ℕ, ◌≡◌, ◌⊎◌, ◌<◌, All, List, [], ◌∷◌, Some, length, map, slice_get}
use Rattle.rvclass.specs.Image.{Image}
use Rattle.legalpath.specs.ProgramLog.{ProgramLog, IsLegalLog}
use Rattle.payload.specs.declared.mode.Mode.{Mode}
use Rattle.encoder.specs.Payloads.{payloads}
use Rattle.message.specs.Numbered.{messages_from}
use Rattle.message.specs.OfHart.{of_hart}
use Rattle.message.specs.declared.message.Message.{Message}

-- Messages are some of those that were sent, in the order in which they were sent. Either the first is the first that
-- was sent, and the others are some of those sent after it; or all are some of those sent after it.
abbrev pub AreSomeOf : List Message → List Message → Type 0
AreSomeOf [] sent = Unit {0}
AreSomeOf (message ∷ messages) [] = ⊥
AreSomeOf (message ∷ messages) (first ∷ sent) =
    ((message ≡ first) × AreSomeOf messages sent) ⊎ AreSomeOf (message ∷ messages) sent

-- The numbers of a hart's messages among these.
abbrev pub numbers_of : ℕ → List Message → List ℕ
numbers_of hart messages = map (λ (message : Message). message.number) (of_hart hart messages)

-- The first of these numbers is 0, or there is none.
abbrev pub BeginAtZero : List ℕ → Type 0
BeginAtZero [] = Unit {0}
BeginAtZero (number ∷ numbers) = number ≡ 0

-- The messages are of legal logs of a program, one log a hart, encoded at this period and each in a mode of its own. Of
-- each hart they are some of the messages of its log, in their order. Messages of different harts may come in any
-- order. A hart's own mode is the one handed in; or the first of its messages that came is number 0, whose packet
-- announces the mode; or none of its messages came.
pub record AreOfLogs (program : Image) (period : ℕ) (handed : Mode) (own : ℕ → Mode) (logs : List ProgramLog)
    (messages : List Message) : Type 0 where
  pub legal : All IsLegalLog logs
  pub same : All (λ (log : ProgramLog). log.program ≡ program) logs
  pub known : All (λ (message : Message). message.hart < length logs) messages
  pub some : (hart : ℕ) (log : ProgramLog) → slice_get logs hart ≡ Some log
      → AreSomeOf (of_hart hart messages) (messages_from hart 0 (payloads period (own hart) log))
  pub mode_known : (hart : ℕ) → hart < length logs → (handed ≡ own hart) ⊎ BeginAtZero (numbers_of hart messages)
