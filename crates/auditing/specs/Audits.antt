-- What an audit of messages keeps.
use Rattle.std.specs.Prelude.{ℕ, ◌≡◌, ◌+◌, ◌-◌, ◌^◌, ◌≤◌, nat_lt, List, [], Option, Some, None, length, map, min, slice_get}
use Rattle.std.specs.List.{range_with_len}
use Rattle.message.specs.Numbered.{messages_from}
use Rattle.message.specs.OfHart.{of_hart}
use Rattle.message.specs.declared.message.Message.{Message}
use Rattle.auditing.specs.Exchanged.{moved}
use Rattle.auditing.specs.Fates.{has_greater, has_number, true_ones}
use Rattle.auditing.specs.Findings.{first_found, greatest_number, latest}
use Rattle.auditing.specs.Judged.{fates_counted, strangers_in}
use Rattle.auditing.specs.Known.{known_all}
use Rattle.auditing.specs.Ledger.{HartLedger, Ledger, known_ledger}
use Rattle.auditing.specs.Sent.{harts_of}
use Rattle.auditing.specs.declared.fate.Fate.TheVariants as fate
use Rattle.auditing.specs.declared.tally.Counts.{Counts}

-- A count, or 2^64 - 1 where it is greater.
abbrev pub capped : ℕ → ℕ
capped count = min count (2 ^ 64 - 1)

-- A place, or 2^64 - 1 where it is greater.
abbrev pub capped_place : Option ℕ → Option ℕ
capped_place None = None
capped_place (Some place) = Some (capped place)

-- The number after this one, or 0 where there is none.
abbrev pub number_after : Option ℕ → ℕ
number_after None = 0
number_after (Some number) = number + 1

-- How many messages of a hart came, and how many of them have each fate.
abbrev pub counts_of : List Message → List Message → ℕ → Counts
counts_of sent received hart = record {
  came = capped (length (of_hart hart received));
  strange = capped (fates_counted sent received hart fate.Stranger);
  changed = capped (fates_counted sent received hart fate.Changed);
  repeated = capped (fates_counted sent received hart fate.Repeat);
  late = capped (fates_counted sent received hart fate.Late);
}

-- What is kept of a hart is what its messages in SENT and in RECEIVED make it: SENT has its messages with these
-- payloads, numbered from 0; the flag of a number is set where a true message of RECEIVED has it; a true message of
-- RECEIVED has a greater number than this one where the greatest of them has; the number after the greatest is kept, and
-- the most by which a message is late; and the counts are those of RECEIVED.
pub record AuditsHart (sent received : List Message) (hart : ℕ) (own : HartLedger) : Type 0 where
  pub payloads : of_hart hart sent ≡ messages_from hart 0 own.payloads
  pub came : own.came
      ≡ map (λ (message : Message). has_number (true_ones sent received) hart message.number) (of_hart hart sent)
  pub past : (number : ℕ) → has_greater (true_ones sent received) hart number ≡ nat_lt (number + 1) own.past
  pub past_is : own.past ≡ number_after (greatest_number (true_ones sent received) hart)
  pub latest : own.latest ≡ latest sent received hart
  pub counts : own.counts ≡ counts_of sent received hart

-- Of each of so many harts how many of its messages are of each of them, which are not true.
abbrev pub all_moved : List Message → List Message → ℕ → List (List ℕ)
all_moved sent received harts =
    map (λ hart. map (λ other. capped (moved sent received hart other)) (range_with_len 0 harts)) (range_with_len 0 harts)

-- An audit of SENT that took the messages of RECEIVED, and that compares payloads by their bytes, keeps this: of each hart what its messages make it; how many
-- strangers came; how many messages came; and the place of the first that is not in order or skips a number, if there is
-- one. The harts are those of SENT; it has no message of another. Of each pair of harts it keeps how many messages of the
-- one are of the other.
pub record AuditsBytes (sent received : List Message) (ledger : Ledger) : Type 0 where
  pub count : length ledger.harts ≡ harts_of ledger.header sent
  pub each : (hart : ℕ) (own : HartLedger) → slice_get ledger.harts hart ≡ Some own
      → AuditsHart sent received hart own
  pub others : (hart : ℕ) → length ledger.harts ≤ hart → of_hart hart sent ≡ []
  pub strangers : ledger.strangers ≡ capped (strangers_in sent received)
  pub taken : ledger.taken ≡ capped (length received)
  pub first : ledger.first ≡ capped_place (first_found sent received)
  pub moves : ledger.moves ≡ all_moved sent received (length ledger.harts)

-- An audit of SENT that took the messages of RECEIVED keeps the payloads of SENT, of as many harts as SENT has. Where each
-- payload is what it is known by, the rest is what such an audit by bytes keeps.
pub record Audits (sent received : List Message) (ledger : Ledger) : Type 0 where
  pub payloads : (hart : ℕ) (own : HartLedger) → slice_get ledger.harts hart ≡ Some own
      → of_hart hart sent ≡ messages_from hart 0 own.payloads
  pub others : (hart : ℕ) → length ledger.harts ≤ hart → of_hart hart sent ≡ []
  pub count : length ledger.harts ≡ harts_of ledger.header sent
  pub known : AuditsBytes (known_all ledger.by sent) (known_all ledger.by received) (known_ledger ledger)
