-- Taking one message.
use Rattle.std.specs.Prelude.{ℕ, ◌+◌, ◌-◌, ◌^◌, ◌==◌, ◌&&◌, not, nat_lt, Bool, true, false, if◌then◌else◌, List, Option, Some, None}
use Rattle.std.specs.Prelude.{length, max, min, slice_get, slice_index_or, slice_set}
use Rattle.std.specs.List.{count_by}
use Rattle.payload.specs.Same.{same}
use Rattle.payload.specs.declared.by.By.{By}
use Rattle.message.specs.declared.message.Message.{Message}
use Rattle.auditing.specs.Exchanged.{first_exchanged}
use Rattle.auditing.specs.Findings.{is_plain}
use Rattle.auditing.specs.HartRows.{longest_of}
use Rattle.auditing.specs.Ledger.{HartLedger, Ledger}
use Rattle.auditing.specs.Losing.{runs_of}
use Rattle.auditing.specs.declared.fate.Fate.{Fate}
use Rattle.auditing.specs.declared.fate.Fate.TheVariants as fate
use Rattle.auditing.specs.declared.finding.Finding.{Finding}
use Rattle.auditing.specs.declared.finding.Finding.TheVariants as finding
use Rattle.auditing.specs.declared.row.HartRow.{HartRow}
use Rattle.auditing.specs.declared.tally.Counts.{Counts}
use Rattle.auditing.specs.declared.tally.Tally.{Tally}
use Rattle.auditing.specs.Unset.{lost_in}
use Rattle.auditing.specs.steps.Moving.{is_untrue, moves_if, owner_in}

-- The fate of a message of a hart, by the payload that SENT has with its number, if it has one.
abbrev pub fate_by : By → HartLedger → ℕ → List ℕ → Option (List ℕ) → Fate
fate_by how own number payload None = fate.Stranger
fate_by how own number payload (Some sent) =
    if not (same how sent payload) then fate.Changed else
    if slice_index_or own.came number false then fate.Repeat else
    if nat_lt (number + 1) own.past then fate.Late else
    fate.InOrder

-- The fate of a message of a hart with this number and this payload.
abbrev pub fate_in : By → HartLedger → ℕ → List ℕ → Fate
fate_in how own number payload = fate_by how own number payload (slice_get own.payloads number)

-- One more, where 2^64 - 1 stays.
abbrev pub one_more : ℕ → ℕ
one_more count = min (count + 1) (2 ^ 64 - 1)

-- The counts after one more message of this fate.
abbrev pub counted : Counts → Fate → Counts
counted counts fate.Stranger = record counts { came = one_more counts.came; strange = one_more counts.strange }
counted counts fate.Changed = record counts { came = one_more counts.came; changed = one_more counts.changed }
counted counts fate.Repeat = record counts { came = one_more counts.came; repeated = one_more counts.repeated }
counted counts fate.Late = record counts { came = one_more counts.came; late = one_more counts.late }
counted counts fate.InOrder = record counts { came = one_more counts.came }

-- By how much a message with this number is late, where this is the number after the greatest true one of its hart before
-- it.
abbrev pub lateness_at : ℕ → ℕ → ℕ
lateness_at past number = past - 1 - number

-- What is kept of the hart after its message with this number and this fate.
abbrev pub hart_after : HartLedger → ℕ → Fate → HartLedger
hart_after own number fate.Late = record own {
  came = slice_set own.came number true;
  latest = max own.latest (lateness_at own.past number);
  counts = counted own.counts fate.Late;
}
hart_after own number fate.InOrder = record own {
  came = slice_set own.came number true;
  past = number + 1;
  counts = counted own.counts fate.InOrder;
}
hart_after own number other = record own { counts = counted own.counts other }

-- What is found of a message of this fate and this number, where this is the number after the greatest true one of its
-- hart before it, 0 where there is none.
abbrev pub finding_at : Fate → ℕ → ℕ → Finding
finding_at fate.Stranger past number = finding.Stranger
finding_at fate.Changed past number = finding.Changed
finding_at fate.Repeat past number = finding.Repeat
finding_at fate.Late past number = finding.Late (lateness_at past number)
finding_at fate.InOrder past number = finding.InOrder (number - past)

-- What is found of a message of a hart with this number and this payload.
abbrev pub finding_in : By → HartLedger → ℕ → List ℕ → Finding
finding_in how own number payload = finding_at (fate_in how own number payload) own.past number

-- The fate of a message, by what is kept of its hart, if the hart is one of SENT's.
abbrev pub fate_found : By → Option HartLedger → Message → Fate
fate_found how None message = fate.Stranger
fate_found how (Some own) message = fate_in how own message.number message.payload

-- The fate of a message, by what is kept.
abbrev pub fate_from : By → Ledger → Message → Fate
fate_from how ledger message = fate_found how (slice_get ledger.harts message.hart) message

-- What is found of a message, by what is kept of its hart, if the hart is one of SENT's.
abbrev pub finding_found : By → Option HartLedger → Message → Finding
finding_found how None message = finding.Stranger
finding_found how (Some own) message = finding_in how own message.number message.payload

-- What is found of a message, by what is kept.
abbrev pub finding_from : By → Ledger → Message → Finding
finding_from how ledger message = finding_found how (slice_get ledger.harts message.hart) message

-- The place of the first message that is not in order or skips a number, after one more with this finding at this place.
abbrev pub first_after : Option ℕ → ℕ → Finding → Option ℕ
first_after (Some first) place its = Some first
first_after None place its = if is_plain its then None else Some place

-- What is kept of all harts after a message, by what is kept of its hart, if the hart is one of SENT's.
abbrev pub harts_found : By → List HartLedger → Message → Option HartLedger → List HartLedger
harts_found how harts message None = harts
harts_found how harts message (Some own) =
    slice_set harts message.hart (hart_after own message.number (fate_in how own message.number message.payload))

-- How many strangers came after a message of this fate.
abbrev pub strangers_after : ℕ → Fate → ℕ
strangers_after strangers fate.Stranger = one_more strangers
strangers_after strangers other = strangers

-- What is kept of all harts after a message.
abbrev pub harts_after : By → Ledger → Message → List HartLedger
harts_after how ledger message = harts_found how ledger.harts message (slice_get ledger.harts message.hart)

-- What is kept after a message.
abbrev pub ledger_after : By → Ledger → Message → Ledger
ledger_after how ledger message = record {
  by = ledger.by;
  header = ledger.header;
  harts = harts_after how ledger message;
  strangers = strangers_after ledger.strangers (fate_from how ledger message);
  taken = one_more ledger.taken;
  first = first_after ledger.first ledger.taken (finding_from how ledger message);
  moves = moves_if (is_untrue (fate_from how ledger message)) ledger.moves message.hart
      (owner_in how (harts_after how ledger message) message.number message.payload);
}

-- A hart is whole, by its counts and how many of its numbers are lost: none is lost, and none of its messages has
-- another fate than in order.
abbrev pub is_whole_by : Counts → ℕ → Bool
is_whole_by counts lost =
    lost == 0 && counts.strange == 0 && counts.changed == 0 && counts.repeated == 0 && counts.late == 0

-- What became of the messages of a hart, by what is kept of it.
abbrev pub tally_in : HartLedger → Tally
tally_in own =
    let lost = count_by not own.came in record {
      sent = length own.came;
      came = own.counts.came;
      lost = lost;
      repeated = own.counts.repeated;
      late = own.counts.late;
      changed = own.counts.changed;
      whole = is_whole_by own.counts lost;
    }

-- What is found of a hart, by what is kept of it, and by how many of its messages that are not true are of each hart.
abbrev pub row_in : HartLedger → List ℕ → HartRow
row_in own moved =
    let runs = runs_of (lost_in 0 own.came) in record {
      tally = tally_in own;
      strange = own.counts.strange;
      runs = length runs;
      longest = longest_of runs;
      latest = own.latest;
      exchanged = first_exchanged 0 (own.counts.changed + own.counts.strange) moved;
    }
