-- What a call reports of an audit of all harts.
use Rattle.std.specs.Prelude.{ℕ, ◌≡◌, ◌<◌, ◌≤◌, ◌==◌, ◌&&◌, ◌||◌, ◌++◌, nat_le, not, Bool, false, if◌then◌else◌}
use Rattle.std.specs.Prelude.{List, [], ◌∷◌, Option, Some, None, is_none, is_some, unwrap_or, drop, length, map}
use Rattle.std.specs.List.{flat_map, list_all, range_with_len}
use Rattle.payload.specs.declared.by.By.{By}
use Rattle.auditing.specs.Findings.{finding_of, first_found}
use Rattle.auditing.specs.HartRows.{row_of}
use Rattle.auditing.specs.Judged.{strangers_in}
use Rattle.auditing.specs.Known.{known_all, known_one}
use Rattle.auditing.specs.Losing.{lost_runs}
use Rattle.auditing.specs.Seen.{sight_of}
use Rattle.auditing.specs.Sent.{IsSent, harts_of}
use Rattle.auditing.specs.declared.exchange.Exchanged.{Exchanged}
use Rattle.auditing.specs.declared.fault.SentFault.{SentFault}
use Rattle.auditing.specs.declared.fault.SentFault.TheVariants as sent
use Rattle.auditing.specs.declared.finding.Finding.{Finding}
use Rattle.auditing.specs.declared.finding.Finding.TheVariants as finding
use Rattle.auditing.specs.declared.lost.Lost.{Lost}
use Rattle.auditing.specs.declared.row.HartRow.{HartRow}
use Rattle.auditing.specs.declared.tally.Tally.{Tally}
use Rattle.frames.specs.declared.span.Span.{Span}
use Rattle.frames.specs.declared.span.Span.TheVariants.{Frame, Bytes}
use Rattle.message.specs.declared.fault.DemuxFault.{DemuxFault}
use Rattle.message.specs.declared.fault.DemuxFault.TheVariants as demux
use Rattle.message.specs.declared.fault.MessageFault.{MessageFault}
use Rattle.message.specs.declared.header.Header.{Header}
use Rattle.message.specs.declared.message.Message.{Message}
use Rattle.frames.specs.Counted.{bytes_in, messages_in}
use Rattle.frames.specs.Passages.{spans_from}
use Rattle.frames.specs.Start.{IsStart, first_place}
use Rattle.ffi.specs.Numbers.{flag}
use Rattle.ffi.specs.Sending.{numbers_of_header}
use Rattle.ffi.specs.Statuses.{demux_status, header_fault, message_status}
use Rattle.ffi.specs.declared.headers.HeaderNumbers.{HeaderNumbers}
use Rattle.ffi.specs.declared.path_numbers.Arrival.{Arrival}
use Rattle.ffi.specs.declared.path_numbers.ByteRun.{ByteRun}
use Rattle.ffi.specs.declared.path_numbers.HartRowNumbers.{HartRowNumbers}
use Rattle.ffi.specs.declared.path_numbers.HartTally.{HartTally}
use Rattle.ffi.specs.declared.path_numbers.LostRun.{LostRun}
use Rattle.ffi.specs.declared.path_numbers.PathEnd.{PathEnd}
use Rattle.ffi.specs.declared.path_numbers.SentPlace.{SentPlace}
use Rattle.ffi.specs.declared.path_numbers.TheConstants.{FATE_IN_ORDER, FATE_LATE, FATE_REPEAT}
use Rattle.ffi.specs.declared.path_numbers.TheConstants.{FATE_CHANGED, FATE_STRANGER}
use Rattle.ffi.specs.declared.status.TheConstants.{DONE, TOO_SMALL, MEMORY}

-- A tally in numbers.
abbrev pub tally_reported : Tally → HartTally
tally_reported tally = record {
  sent = tally.sent;
  came = tally.came;
  lost = tally.lost;
  repeated = tally.repeated;
  late = tally.late;
  changed = tally.changed;
  whole = flag tally.whole;
}

-- Why SENT is refused, as a status.
abbrev pub sent_status : SentFault → ℕ
sent_status (sent.Unread number why) = message_status why
sent_status (sent.Misplaced number why) = demux_status why
sent_status sent.Memory = MEMORY

-- How many messages of a hart that are not true are another hart's, and which hart that is, 0 where there is none.
abbrev pub exchanged_count : Option Exchanged → ℕ
exchanged_count None = 0
exchanged_count (Some its) = its.count

abbrev pub exchanged_hart : Option Exchanged → ℕ
exchanged_hart None = 0
exchanged_hart (Some its) = its.hart

-- What is found of a hart, in numbers.
abbrev pub row_reported : HartRow → HartRowNumbers
row_reported row = record {
  tally = tally_reported row.tally;
  strange = row.strange;
  extra = 0;
  runs = row.runs;
  longest = row.longest;
  latest = row.latest;
  exchanged = exchanged_count row.exchanged;
  exchanged_hart = exchanged_hart row.exchanged;
}

-- The number of a fate.
abbrev pub fate_number : Finding → ℕ
fate_number finding.Stranger = FATE_STRANGER
fate_number finding.Changed = FATE_CHANGED
fate_number finding.Repeat = FATE_REPEAT
fate_number (finding.Late by) = FATE_LATE
fate_number (finding.InOrder skips) = FATE_IN_ORDER

-- By how much a message is late, or how many numbers one in order skips; 0 for the others.
abbrev pub found_by : Finding → ℕ
found_by (finding.Late by) = by
found_by (finding.InOrder skips) = skips
found_by other = 0

-- A message of RECEIVED at this offset, of which this is found.
abbrev pub arrival_of : ℕ → Message → Finding → Arrival
arrival_of offset message found = record {
  number = message.number;
  by = found_by found;
  offset = offset;
  fate = fate_number found;
  hart = message.hart;
}

-- The messages that are taken, each with its offset and what is found of it, by SENT and the messages before it.
-- Messages are compared by what their payloads are known by.
abbrev pub arrivals_after : By → List Message → List Message → List Span → List Arrival
arrivals_after how sent before [] = []
arrivals_after how sent before (Frame offset message ∷ more) =
    arrival_of offset message (finding_of (known_all how sent) (known_all how before) (known_one how message))
    ∷ arrivals_after how sent (before ++ message ∷ []) more
arrivals_after how sent before (Bytes offset count ∷ more) = arrivals_after how sent before more

-- The longest runs of bytes of no message.
abbrev pub byte_runs : List Span → List ByteRun
byte_runs [] = []
byte_runs (Frame offset message ∷ more) = byte_runs more
byte_runs (Bytes offset count ∷ more) = record { offset = offset; count = count } ∷ byte_runs more

-- A longest run of numbers of a hart that were lost.
abbrev pub lost_reported : ℕ → Lost → LostRun
lost_reported hart run = record { first = run.first; last = run.last; hart = hart }

-- The longest runs of numbers that were lost, hart by hart.
abbrev pub all_lost : List Message → List Message → ℕ → List LostRun
all_lost sent received harts =
    flat_map (λ hart. map (lost_reported hart) (lost_runs sent received hart)) (range_with_len 0 harts)

-- What is found of each hart.
abbrev pub all_rows : List Message → List Message → ℕ → List HartRowNumbers
all_rows sent received harts = map (λ hart. row_reported (row_of sent received hart)) (range_with_len 0 harts)

-- A header in numbers, all 0 where there is none.
abbrev pub header_reported : Option Header → HeaderNumbers
header_reported None = record { mode = 0; period = 0; harts = 0 }
header_reported (Some header) = numbers_of_header header

-- Two headers are not the same.
abbrev pub are_unlike : HeaderNumbers → HeaderNumbers → Bool
are_unlike header other =
    not (header.mode == other.mode) || not (header.period == other.period) || not (header.harts == other.harts)

-- Both captures have a header, and these differ.
abbrev pub headers_differ : Option Header → Option Header → Bool
headers_differ None other = false
headers_differ (Some header) None = false
headers_differ (Some header) (Some other) = are_unlike (numbers_of_header header) (numbers_of_header other)

-- The same; or SENT has a header, and that of RECEIVED is cut or not valid.
abbrev pub heads_differ : Option Header → Option Header → Option MessageFault → Bool
heads_differ sent header None = headers_differ sent header
heads_differ sent header (Some why) = is_some sent

-- All harts are whole.
abbrev pub are_rows_whole : List HartRowNumbers → Bool
are_rows_whole rows = list_all (λ (row : HartRowNumbers). row.tally.whole == 1) rows

-- The path is whole: every hart is, no stranger came, headers do not differ, and RECEIVED is read without damage: its
-- header is valid, if it begins as a capture of version 2 does, and each byte is one of a message.
abbrev pub is_path_whole : List HartRowNumbers → ℕ → Bool → Option MessageFault → ℕ → Bool
is_path_whole rows strangers differ fault bytes =
    are_rows_whole rows && (strangers == 0) && not differ && is_none fault && (bytes == 0)

-- What is found of a path, beside its harts and its messages: how many things there are of each kind, how many bytes are
-- of no message, how many strangers came, which message is the first that is not in order or skips a number, both
-- headers, and whether the path is whole.
abbrev pub path_end : Option Header → Option Header → Option MessageFault → List HartRowNumbers → ℕ → ℕ → ℕ → ℕ → ℕ
    → Option ℕ → PathEnd
path_end header came_with fault rows messages lost runs bytes strangers first = record {
  harts = length rows;
  messages = messages;
  lost_runs = lost;
  byte_runs = runs;
  bytes = bytes;
  strangers = strangers;
  first = unwrap_or first 0;
  sent_header = header_reported header;
  received_header = header_reported came_with;
  has_sent_header = flag (is_some header);
  has_received_header = flag (is_some came_with);
  header_fault = header_fault fault;
  headers_differ = flag (heads_differ header came_with fault);
  has_first = flag (is_some first);
  whole = flag (is_path_whole rows strangers (heads_differ header came_with fault) fault bytes);
}

-- SENT was audited against RECEIVED, whose messages and the bytes between them are found by what was sent: what is found
-- of each hart, of each message that is taken, which numbers were lost, which bytes are of no message, and the rest.
pub record IsAuditedAll (how : By) (sent received : List ℕ) (rows : List HartRowNumbers) (arrivals : List Arrival)
    (lost : List LostRun) (runs : List ByteRun) (end : PathEnd) : Type 0 where
  pub header : Option Header
  pub was_sent : List Message
  pub came_with : Option Header
  pub fault : Option MessageFault
  pub spans : List Span
  pub is_sent : IsSent sent header was_sent
  pub starts : IsStart received came_with fault
  pub spans_are : spans ≡ spans_from (sight_of how was_sent) (first_place came_with) (drop (first_place came_with) received)
  pub rows_are : rows ≡ all_rows (known_all how was_sent) (known_all how (messages_in spans)) (harts_of header was_sent)
  pub arrivals_are : arrivals ≡ arrivals_after how was_sent [] spans
  pub lost_are : lost ≡ all_lost (known_all how was_sent) (known_all how (messages_in spans)) (harts_of header was_sent)
  pub runs_are : runs ≡ byte_runs spans
  pub end_is : end
      ≡ path_end header came_with fault rows (length arrivals) (length lost) (length runs) (bytes_in spans)
      (strangers_in (known_all how was_sent) (known_all how (messages_in spans)))
      (first_found (known_all how was_sent) (known_all how (messages_in spans)))

-- Things are at the start of an array where they fit, and what was after them stays. Where they do not, the array is as
-- it was.
pub record IsGiven {X : Type 0} (xs old new : List X) : Type 0 where
  pub fits : length xs ≤ length old → new ≡ xs ++ drop (length xs) old
  pub small : length old < length xs → new ≡ old

-- All is done where so many things fit into each of four arrays; else one of these is too small.
abbrev pub fitting_status : Bool → Bool → Bool → Bool → ℕ
fitting_status rows arrivals lost runs = if rows && arrivals && lost && runs then DONE else TOO_SMALL

-- The number that is expected in place of a gap; 0 where there is none.
abbrev pub expected_at : DemuxFault → ℕ
expected_at (demux.Gap expected) = expected
expected_at other = 0

-- The message of SENT that is refused, and the number that is expected in its place; 0 and 0 where none is named.
abbrev pub sent_place : SentFault → SentPlace
sent_place (sent.Unread number why) = record { message = number; expected = 0 }
sent_place (sent.Misplaced number why) = record { message = number; expected = expected_at why }
sent_place sent.Memory = record { message = 0; expected = 0 }

-- The arrays of a caller.
pub record Arrays : Type 0 where
  pub rows : List HartRowNumbers
  pub arrivals : List Arrival
  pub lost : List LostRun
  pub runs : List ByteRun

-- What was found is handed out to each array that is large enough, and the status says whether all are.
pub record AreGiven (rows : List HartRowNumbers) (arrivals : List Arrival) (lost : List LostRun) (runs : List ByteRun)
    (status : ℕ) (old new : Arrays) : Type 0 where
  pub rows_given : IsGiven rows old.rows new.rows
  pub arrivals_given : IsGiven arrivals old.arrivals new.arrivals
  pub lost_given : IsGiven lost old.lost new.lost
  pub runs_given : IsGiven runs old.runs new.runs
  pub said : status
      ≡ fitting_status (nat_le (length rows) (length old.rows)) (nat_le (length arrivals) (length old.arrivals))
      (nat_le (length lost) (length old.lost)) (nat_le (length runs) (length old.runs))
