-- How messages that carry no numbers are read and written.
use Rattle.std.specs.Prelude.{ℕ, ◌≡◌, ◌⊎◌, ◌&&◌, ◌++◌, List, [], ◌∷◌, Option, Result, Err, length, map, nat_lt, not}
use Rattle.std.specs.List.{count_by}
use Rattle.std.specs.Io.KnownBytes.{Appends}
use Rattle.payload.specs.declared.by.By.{By}
use Rattle.auditing.specs.Matches.{Flags}
use Rattle.message.specs.Range.{selected, selects}
use Rattle.message.specs.declared.range.HartRange.{HartRange}
use Rattle.message.specs.declared.header.Header.{Header}
use Rattle.message.specs.declared.message.Message.{Message}
use Rattle.frames.specs.Counted.{bytes_in, messages_in, runs_in}
use Rattle.frames.specs.declared.span.Span.{Span}
use Rattle.command_inputs.specs.declared.words.Audit.{Audit}
use Rattle.auditing.specs.Sent.{IsSent, harts_of}
use Rattle.auditing.specs.Split.{AreSplit}
use Rattle.command_inputs.specs.declared.fault.Fault.TheVariants as fault
use Rattle.command_inputs.specs.declared.status.Status.{Status}
use Rattle.path_commands.specs.Faults.{Fault}
use Rattle.path_commands.specs.Rows.{report_of}
use Rattle.path_commands.specs.ReceivedCapture.{IsReadByPayloads, ReceivedCapture}
use Rattle.path_commands.specs.Unnumbered.{byte_runs, end_of_unnumbered, unnumbered_audit}
use Rattle.path_commands.specs.declared.by_hart.ByHart.{ByHart}
use Rattle.path_commands.specs.declared.keeping.KeptSent.{KeptSent}
use Rattle.path_commands.specs.declared.reading.Received.{Received}
use Rattle.path_commands.specs.steps.Reading.{progress_after}

-- What is kept of SENT, which has these messages: its bytes, and the payloads of each of these harts, as they are
-- compared.
pub record IsKept (how : By) (harts : HartRange) (messages : List Message) (own : KeptSent) : Type 0 where
  pub by : own.payloads.by ≡ how
  pub split : AreSplit own.payloads.by (harts_of own.header messages) (selected harts messages) own.payloads.lists
  pub sent : IsSent own.bytes.items own.header messages

-- SENT has these bytes, and this is kept of it.
pub record KeepsSent (how : By) (harts : HartRange) (bytes : List ℕ) (own : KeptSent) : Type 0 where
  pub messages : List Message
  pub sent : IsSent bytes own.header messages
  pub kept : IsKept how harts messages own

-- What is kept of messages by hart: the hart of each, and of each of these harts what its payloads are known by.
pub record IsByHart (harts : HartRange) (messages : List Message) (own : ByHart) : Type 0 where
  pub each : own.harts.items ≡ map (λ (message : Message). message.hart) messages
  pub split : AreSplit own.payloads.by (length own.payloads.lists) (selected harts messages) own.payloads.lists

-- RECEIVED, as it was read, with these messages and runs of bytes between them.
abbrev pub capture_with : Received → List Span → ReceivedCapture
capture_with own spans = record { header = own.header; fault = own.fault; spans = spans }

-- This is kept of these messages and runs of bytes: what is kept of messages by hart, the runs, and how many bytes of no
-- message there are and in how many runs.
pub record KeepsSpans (harts : HartRange) (spans : List Span) (own : Received) : Type 0 where
  pub lists : IsByHart harts (messages_in spans) own.lists
  pub runs : own.runs.items ≡ byte_runs 0 spans
  pub bytes : own.read.bytes ≡ bytes_in spans
  pub count : own.read.runs ≡ runs_in spans

-- RECEIVED has these bytes, and is read by the payloads of these messages of SENT, which has so many harts: this is kept
-- of it.
pub record ReadsCame (how : By) (sent : List Message) (harts : HartRange) (count : ℕ) (bytes : List ℕ) (own : Received)
    : Type 0 where
  pub spans : List Span
  pub is_came : IsReadByPayloads how sent bytes (capture_with own spans)
  pub kept : KeepsSpans harts spans own
  pub by : own.lists.payloads.by ≡ how
  pub each : length own.lists.payloads.lists ≡ count

-- Nothing is kept so far.
pub record IsFresh (harts : HartRange) (own : Received) : Type 0 where
  pub lists : IsByHart harts [] own.lists
  pub runs : own.runs.items ≡ []
  pub read : own.read ≡ record { messages = 0; bytes = 0; runs = 0 }

-- One span more is kept.
pub record TakesSpan (harts : HartRange) (span : Span) (own new : Received) : Type 0 where
  pub header : new.header ≡ own.header
  pub fault : new.fault ≡ own.fault
  pub lists : (messages : List Message) → IsByHart harts messages own.lists
      → IsByHart harts (messages ++ messages_in (span ∷ [])) new.lists
      × (length new.lists.payloads.lists ≡ length own.lists.payloads.lists)
  pub by : new.lists.payloads.by ≡ own.lists.payloads.by
  pub runs : new.runs.items ≡ own.runs.items ++ byte_runs (length own.lists.harts.items) (span ∷ [])
  pub read : new.read ≡ progress_after own.read span

-- How many messages, which are of these harts, are of a hart of the range and of none of so many.
abbrev pub strangers_of : HartRange → ℕ → List ℕ → ℕ
strangers_of harts count own = count_by (λ hart. selects harts hart && not (nat_lt hart count)) own

-- Allocation or the output failed; or all is written, and the run ends as it should.
abbrev pub EndsUnnumbered : Audit → HartRange → Option Header → ReceivedCapture → List Flags → Result Status Fault
    → Option (List ℕ) → Option (List ℕ) → Type 0
EndsUnnumbered asked harts header came all ended old new =
    (ended ≡ Err fault.Memory)
    ⊎ ((ended ≡ Err fault.Output)
    ⊎ (Appends old new (unnumbered_audit (report_of asked.format asked harts) header came all)
    × (ended ≡ end_of_unnumbered asked.received harts header came all)))
