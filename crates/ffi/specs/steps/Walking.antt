-- RECEIVED is taken span by span.
use Rattle.std.specs.Prelude.{ℕ, ◌≡◌, ◌<◌, ◌^◌, List, [], drop, length}
use Rattle.payload.specs.declared.by.By.{By}
use Rattle.auditing.specs.Audits.{Audits}
use Rattle.auditing.specs.Ledger.{Ledger}
use Rattle.auditing.specs.Seen.{sight_of}
use Rattle.frames.specs.declared.span.Span.{Span}
use Rattle.message.specs.declared.message.Message.{Message}
use Rattle.frames.specs.Counted.{bytes_in, messages_in}
use Rattle.frames.specs.Passages.{spans_from}
use Rattle.frames.specs.Start.{IsStart, first_place}
use Rattle.ffi.specs.AuditedAll.{arrivals_after, byte_runs}
use Rattle.ffi.specs.declared.path_all.CameIn.{CameIn}

-- RECEIVED begins so, and its messages and the bytes between them were taken by an audit of SENT.
pub record HasCome (how : By) (sent : List Message) (bytes : List ℕ) (path : Ledger) (came : CameIn) : Type 0 where
  pub spans : List Span
  pub starts : IsStart bytes came.start.header came.start.fault
  pub spans_are : spans
      ≡ spans_from (sight_of how sent) (first_place came.start.header) (drop (first_place came.start.header) bytes)
  pub audits : Audits sent (messages_in spans) path
  pub few : length (messages_in spans) < 2 ^ 64
  pub arrivals : came.arrivals.items ≡ arrivals_after how sent [] spans
  pub runs : came.runs.items ≡ byte_runs spans
  pub bytes_are : came.bytes ≡ bytes_in spans
