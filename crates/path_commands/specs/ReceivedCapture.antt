-- RECEIVED, read by what was sent, and whether an audit of it finds all whole.
use Rattle.std.specs.Prelude.{◌≡◌, ℕ, ◌==◌, ◌&&◌, not, Bool, is_none, List, Option, drop}
use Rattle.payload.specs.declared.by.By.{By}
use Rattle.frames.specs.declared.span.Span.{Span}
use Rattle.message.specs.declared.range.HartRange.{HartRange}
use Rattle.message.specs.declared.fault.MessageFault.{MessageFault}
use Rattle.message.specs.declared.header.Header.{Header}
use Rattle.message.specs.declared.message.Message.{Message}
use Rattle.frames.specs.Counted.{bytes_in, messages_in}
use Rattle.frames.specs.Passages.{spans_from}
use Rattle.frames.specs.Start.{IsStart, first_place}
use Rattle.auditing.specs.Known.{known_all}
use Rattle.auditing.specs.PayloadSights.{payload_spans}
use Rattle.auditing.specs.Seen.{sight_of}
use Rattle.auditing.specs.Sent.{harts_of}
use Rattle.path_commands.specs.AuditText.{are_whole}
use Rattle.path_commands.specs.OnlyHarts.{harts_among, strangers_of}
use Rattle.path_commands.specs.Sides.{Sent, heads_differ}

-- RECEIVED: its header, if it has a valid one; why it has none, where it begins as a capture of version 2 does; and its
-- messages and the runs of bytes between them.
pub record ReceivedCapture : Type 0 where
  pub header : Option Header
  pub fault : Option MessageFault
  pub spans : List Span

-- RECEIVED begins with this header, or with none, and is read after it, or else from its first byte on: its messages
-- and the bytes between them are found by what was sent.
pub record IsReceivedCapture (how : By) (sent : List Message) (bytes : List ℕ) (came : ReceivedCapture) : Type 0 where
  pub start : IsStart bytes came.header came.fault
  pub spans : came.spans ≡ spans_from (sight_of how sent) (first_place came.header) (drop
      (first_place came.header) bytes)

-- As this, but its messages and the bytes between them are found by the payloads that were sent, whatever their numbers.
pub record IsReadByPayloads (how : By) (sent : List Message) (bytes : List ℕ) (came : ReceivedCapture) : Type 0 where
  pub start : IsStart bytes came.header came.fault
  pub spans : came.spans ≡ payload_spans how sent (first_place came.header) (drop (first_place came.header) bytes)

-- RECEIVED is read without damage: its header is valid, if it begins as a capture of version 2 does, and each byte is
-- one of a message.
abbrev pub is_undamaged : ReceivedCapture → Bool
is_undamaged came = is_none came.fault && (bytes_in came.spans == 0)

-- The result is whole, of these harts: each of them that SENT has is whole, no stranger of them came, headers do not
-- differ, and RECEIVED is read without damage.
abbrev pub is_whole_result : By → HartRange → Sent → ReceivedCapture → Bool
is_whole_result how harts sent came =
    let known = known_all how sent.messages in
    let received = known_all how (messages_in came.spans) in
    are_whole known received (harts_among harts (harts_of sent.header sent.messages))
    && (strangers_of harts known received == 0)
    && not (heads_differ sent.header came.header came.fault) && is_undamaged came
