-- What is held of SENT.
use Rattle.std.specs.Prelude.{ℕ, List}
use Rattle.payload.specs.declared.by.By.{By}
use Rattle.live.specs.declared.numbers.Numbers.{Numbers}
use Rattle.live.specs.declared.held.SentMessage.{SentMessage}

-- By what payloads are compared; how many messages may be in view before the front, and how many after it; how many in
-- view are up to the front; the messages in view; and of each hart how many numbers are given up, and how many were read.
pub record Holding : Type 0 where
  pub by : By
  pub window : ℕ
  pub near : ℕ
  pub slots : List SentMessage
  pub harts : List Numbers
