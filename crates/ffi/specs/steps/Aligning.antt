-- RECEIVED is read by the payloads of SENT.
use Rattle.std.specs.Prelude.{ℕ, ◌≡◌, List, drop}
use Rattle.payload.specs.declared.by.By.{By}
use Rattle.auditing.specs.PayloadSights.{payload_spans}
use Rattle.auditing.specs.Split.{AreSplit}
use Rattle.frames.specs.Counted.{bytes_in, messages_in}
use Rattle.frames.specs.Start.{IsStart, first_place}
use Rattle.message.specs.declared.message.Message.{Message}
use Rattle.ffi.specs.declared.aligned_reading.CameBy.{CameBy}

-- RECEIVED, which has these bytes, was read by the payloads of these messages of SENT: how it begins, its messages and
-- the bytes between them, and the payloads of each of so many harts.
pub record HasRead (how : By) (harts : ℕ) (sent : List Message) (bytes : List ℕ) (came : CameBy) : Type 0 where
  pub starts : IsStart bytes came.start.header came.start.fault
  pub spans_are : came.spans.items
      ≡ payload_spans how sent (first_place came.start.header) (drop (first_place came.start.header) bytes)
  pub counted : came.bytes ≡ bytes_in came.spans.items
  pub by : came.payloads.by ≡ how
  pub split : AreSplit how harts (messages_in came.spans.items) came.payloads.lists
