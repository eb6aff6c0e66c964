-- What a live audit says, line by line.
use Rattle.std.specs.Prelude.{ℕ, List, Option}
use Rattle.auditing.specs.declared.finding.Finding.{Finding}
use Rattle.auditing.specs.declared.lost.Lost.{Lost}
use Rattle.live.specs.declared.arrived.Arrived.{Arrived}
use Rattle.live.specs.declared.held.SentMessage.{SentMessage}

-- What is found of a message of RECEIVED, and the payload that SENT has if it is changed; that a message is too late; that a
-- message of SENT is given up, and whether it came; and that these numbers of a hart are lost.
pub data Line : Type 0 where
  Decided : Arrived → Finding → Option (List ℕ) → Line
  TooLate : Arrived → Line
  GivenUp : SentMessage → Line
  Missing : ℕ → Lost → Line
