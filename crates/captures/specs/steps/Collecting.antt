-- What a receiver holds once it has received the messages of bytes.
use Rattle.std.specs.Prelude.{ℕ, ◌≡◌, ◌++◌, All, List, Option}
use Rattle.message.specs.Range.{selected}
use Rattle.message.specs.declared.range.HartRange.{HartRange}
use Rattle.rvclass.specs.Words.{Words}
use Rattle.payload.specs.declared.mode.Mode.{Mode}
use Rattle.message.specs.Accepted.{AreAccepted, newcomers}
use Rattle.message.specs.Capture.{capture}
use Rattle.message.specs.Cut.{IsMessage}
use Rattle.message.specs.declared.message.Message.{Message}
use Rattle.receiver.specs.Agreeing.{Agrees}
use Rattle.receiver.specs.Holds.{Holds}
use Rattle.receiver.specs.Received.{Received}
use Rattle.captures.specs.Decoded.{StopsOf}
use Rattle.captures.specs.declared.outcome.CaptureFault.{CaptureFault}

-- A receiver accepted those of these harts among the messages with which the bytes begin, and holds what they decode
-- to. None of them opens a trace in another mode than the announced one, if one is announced. Receiving stops before
-- the rest.
pub record HasReceivedUpTo (range : HartRange) (words : Words) (harts : ℕ) (announced : Option Mode) (bytes : List ℕ)
    (received : Received) (stop : Option (ℕ × CaptureFault)) : Type 0 where
  pub messages : List Message
  pub rest : List ℕ
  pub ranges : All IsMessage messages
  pub whole : bytes ≡ capture messages ++ rest
  pub accepted : AreAccepted (newcomers harts) (selected range messages)
  pub agree : All (Agrees announced) (selected range messages)
  pub holds : Holds (λ hart. words) harts (selected range messages) received
  pub stops : StopsOf range words harts announced messages rest stop
