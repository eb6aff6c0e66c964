-- The state of a funnel and of the harts that send into it.
use Rattle.std.specs.Prelude.{ℕ, ◌≡◌, List, Option, Some, None, length, slice_get}
use Rattle.legalpath.specs.ProgramLog.{ProgramLog}
use Rattle.payload.specs.declared.mode.Mode.{Mode}
use Rattle.message.specs.declared.message.Message.{Message}
use Rattle.funnel.specs.Held.{Held}
use Rattle.funnel.specs.Machine.{Funnel, sent_by}
use Rattle.bench.specs.declared.sender.Sender.{Sender}

-- A hart that has this log, sends at this period and in this mode, and sent this many messages.
abbrev pub sender_at : {B : Type 0} → ℕ → Mode → ProgramLog → ℕ → Sender B
sender_at period mode log count =
    record { source = record { log = log; period = period; mode = mode; number = count }; number = count }

-- The message of a hart with this number and this payload, where there is a payload.
abbrev pub message_with : ℕ → ℕ → Option (List ℕ) → Option Message
message_with hart number None = None
message_with hart number (Some payload) = Some (record { hart = hart; number = number; payload = payload })

-- There is a sender for each log, which sent nothing.
pub record AreNewSenders {B : Type 0} (period : ℕ) (mode : Mode) (logs : List ProgramLog) (senders : List (Sender B))
    : Type 0 where
  pub count : length senders ≡ length logs
  pub each : (hart : ℕ) (log : ProgramLog) → slice_get logs hart ≡ Some log
      → slice_get senders hart ≡ Some (sender_at period mode log 0)

-- The funnel and the harts with these logs are in this state of the funnel machine.
pub record AreSending {B : Type 0} (period : ℕ) (mode : Mode) (capacity : ℕ) (logs : List ProgramLog) (state : Funnel)
    (core : Held) (senders : List (Sender B)) : Type 0 where
  pub funnel : core ≡ record { harts = length logs; capacity = capacity; queue = state.queue }
  pub places : length state.sent ≡ length logs
  pub count : length senders ≡ length logs
  pub each : (hart : ℕ) (log : ProgramLog) → slice_get logs hart ≡ Some log
      → slice_get senders hart ≡ Some (sender_at period mode log (length (sent_by hart state)))
