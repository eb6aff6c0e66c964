-- What a call reports of an audit of all harts by payloads alone.
use Rattle.std.specs.Prelude.{ℕ, ◌≡◌, ◌==◌, ◌+◌, ◌||◌, ◌++◌, not, Bool, if◌then◌else◌, List, [], ◌∷◌, Option, Some, None}
use Rattle.std.specs.Prelude.{drop, get_or, length, map, slice_get}
use Rattle.std.specs.List.{count_by, flat_map, range_with_len}
use Rattle.auditing.specs.Aligned.{AreAligned}
use Rattle.auditing.specs.Arrivals.{arrival_of, moved, start}
use Rattle.auditing.specs.Counted.{counts_of}
use Rattle.auditing.specs.Cursor.{Cursor}
use Rattle.auditing.specs.HartRows.{longest_of}
use Rattle.auditing.specs.Losing.{runs_of}
use Rattle.auditing.specs.Matches.{Flags}
use Rattle.auditing.specs.PayloadSights.{payload_spans}
use Rattle.auditing.specs.Sent.{IsSent, harts_of}
use Rattle.auditing.specs.Unset.{lost_in}
use Rattle.auditing.specs.declared.arrivals.Arrival as matched
use Rattle.auditing.specs.declared.arrivals.Arrival.TheVariants as found
use Rattle.auditing.specs.declared.lost.Lost.{Lost}
use Rattle.frames.specs.Counted.{bytes_in, messages_in}
use Rattle.frames.specs.Start.{IsStart, first_place}
use Rattle.frames.specs.declared.span.Span.{Span}
use Rattle.frames.specs.declared.span.Span.TheVariants.{Frame, Bytes}
use Rattle.message.specs.declared.fault.MessageFault.{MessageFault}
use Rattle.message.specs.declared.header.Header.{Header}
use Rattle.message.specs.declared.message.Message.{Message}
use Rattle.payload.specs.declared.by.By.{By}
use Rattle.ffi.specs.AuditedAll.{byte_runs, lost_reported, path_end}
use Rattle.ffi.specs.Numbers.{flag}
use Rattle.ffi.specs.declared.path_numbers.Arrival.{Arrival}
use Rattle.ffi.specs.declared.path_numbers.ByteRun.{ByteRun}
use Rattle.ffi.specs.declared.path_numbers.HartRowNumbers.{HartRowNumbers}
use Rattle.ffi.specs.declared.path_numbers.LostRun.{LostRun}
use Rattle.ffi.specs.declared.path_numbers.PathEnd.{PathEnd}
use Rattle.ffi.specs.declared.path_numbers.TheConstants.{FATE_IN_ORDER, FATE_EXTRA, FATE_STRANGER}

-- The longest runs of numbers of a hart of SENT that are matched with nothing that came.
abbrev pub unmatched_runs : Flags → List Lost
unmatched_runs flags = runs_of (lost_in 0 flags.sent)

-- What is found of a hart, by its alignment. Numbers alone show the rest, which is 0.
abbrev pub aligned_reported : Flags → HartRowNumbers
aligned_reported flags = record {
  tally = record {
    sent = (counts_of flags).sent;
    came = (counts_of flags).came;
    lost = (counts_of flags).lost;
    repeated = 0;
    late = 0;
    changed = 0;
    whole = flag (counts_of flags).whole;
  };
  strange = 0;
  extra = (counts_of flags).extra;
  runs = length (unmatched_runs flags);
  longest = longest_of (unmatched_runs flags);
  latest = 0;
  exchanged = 0;
  exchanged_hart = 0;
}

-- Nothing is matched.
abbrev pub no_flags : Flags
no_flags = record { sent = []; came = [] }

-- The longest runs of numbers of a hart that were lost, by the alignments of the harts.
abbrev pub unmatched_in : List Flags → ℕ → List LostRun
unmatched_in all hart = map (lost_reported hart) (unmatched_runs (get_or all hart no_flags))

-- The same, hart by hart.
abbrev pub all_unmatched : List Flags → List LostRun
all_unmatched all = flat_map (unmatched_in all) (range_with_len 0 (length all))

-- A message of a hart at this offset of RECEIVED, in numbers: a stranger, extra, or matched with this number of SENT.
abbrev pub matched_at : ℕ → ℕ → matched.Arrival → Arrival
matched_at offset hart found.Stranger =
    record { number = 0; by = 0; offset = offset; fate = FATE_STRANGER; hart = hart }
matched_at offset hart found.Extra = record { number = 0; by = 0; offset = offset; fate = FATE_EXTRA; hart = hart }
matched_at offset hart (found.Matched number skips) =
    record { number = number; by = skips; offset = offset; fate = FATE_IN_ORDER; hart = hart }

-- What became of a message of RECEIVED, by what is left of the harts. Bytes between messages are none.
abbrev pub arrival_by : List Cursor → Span → List Arrival
arrival_by cursors (Frame offset message) =
    matched_at offset message.hart (arrival_of (slice_get cursors message.hart)) ∷ []
arrival_by cursors (Bytes offset count) = []

-- What is left of the harts then.
abbrev pub moved_by : List Cursor → Span → List Cursor
moved_by cursors (Frame offset message) = moved cursors message.hart (slice_get cursors message.hart)
moved_by cursors (Bytes offset count) = cursors

-- What became of the messages of RECEIVED, one after the other.
abbrev pub arrivals_from : List Cursor → List Span → List Arrival
arrivals_from cursors [] = []
arrivals_from cursors (span ∷ more) = arrival_by cursors span ++ arrivals_from (moved_by cursors span) more

-- The same by the alignments of the harts.
abbrev pub matched_arrivals : List Flags → List Span → List Arrival
matched_arrivals all spans = arrivals_from (map start all) spans

-- How many of these messages are strangers.
abbrev pub strangers_among : List Arrival → ℕ
strangers_among arrivals = count_by (λ (one : Arrival). one.fate == FATE_STRANGER) arrivals

-- A message is not matched, or skips numbers.
abbrev pub is_told : Arrival → Bool
is_told one = not (one.fate == FATE_IN_ORDER) || not (one.by == 0)

-- The place of the first message that is not matched or skips numbers, if there is one. The first of these is at this
-- place.
abbrev pub told_after : ℕ → List Arrival → Option ℕ
told_after place [] = None
told_after place (one ∷ more) = if is_told one then Some place else told_after (place + 1) more

abbrev pub first_told : List Arrival → Option ℕ
first_told arrivals = told_after 0 arrivals

-- SENT was audited against RECEIVED by payloads alone. The messages of RECEIVED and the bytes between them are found by
-- the payloads that were sent. The payloads of each hart are aligned, and by the alignments it is reported what is found
-- of each hart, what became of each message that is taken, which numbers were lost, and the rest. The place of the first
-- message that is not matched or skips numbers is among it.
pub record IsAuditedUnnumbered (how : By) (sent received : List ℕ) (rows : List HartRowNumbers)
    (arrivals : List Arrival) (lost : List LostRun) (runs : List ByteRun) (end : PathEnd) : Type 0 where
  pub header : Option Header
  pub was_sent : List Message
  pub came_with : Option Header
  pub fault : Option MessageFault
  pub spans : List Span
  pub all : List Flags
  pub is_sent : IsSent sent header was_sent
  pub starts : IsStart received came_with fault
  pub spans_are : spans ≡ payload_spans how was_sent (first_place came_with) (drop (first_place came_with) received)
  pub aligned : AreAligned how (harts_of header was_sent) was_sent (messages_in spans) all
  pub rows_are : rows ≡ map aligned_reported all
  pub arrivals_are : arrivals ≡ matched_arrivals all spans
  pub lost_are : lost ≡ all_unmatched all
  pub runs_are : runs ≡ byte_runs spans
  pub end_is : end
      ≡ path_end header came_with fault rows (length arrivals) (length lost) (length runs) (bytes_in spans)
      (strangers_among arrivals) (first_told arrivals)
