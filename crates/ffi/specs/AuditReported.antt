-- How a call reports an audit of all harts.
use Rattle.std.specs.Prelude.{ℕ, ◌≡◌, ◌==◌, ◌+◌, if◌then◌else◌, List, Option, Some, None}
use Rattle.payload.specs.declared.by.By.TheVariants as by
use Rattle.auditing.specs.Sent.{IsSentFault}
use Rattle.auditing.specs.declared.fault.SentFault.{SentFault}
use Rattle.ffi.specs.AuditedAll.{AreGiven, Arrays, IsAuditedAll, sent_place, sent_status}
use Rattle.ffi.specs.AuditedUnnumbered.{IsAuditedUnnumbered}
use Rattle.ffi.specs.declared.path_all.AuditBy.{AuditBy}
use Rattle.ffi.specs.declared.path_all.AuditBy.TheVariants.{Numbers, Payloads}
use Rattle.ffi.specs.declared.path_numbers.Arrival.{Arrival}
use Rattle.ffi.specs.declared.path_numbers.ByteRun.{ByteRun}
use Rattle.ffi.specs.declared.path_numbers.HartRowNumbers.{HartRowNumbers}
use Rattle.ffi.specs.declared.path_numbers.LostRun.{LostRun}
use Rattle.ffi.specs.declared.path_numbers.PathEnd.{PathEnd}
use Rattle.ffi.specs.declared.path_numbers.SentPlace.{SentPlace}
use Rattle.ffi.specs.declared.path_numbers.TheConstants.{BY_PACKETS, UNNUMBERED}
use Rattle.ffi.specs.declared.status.TheConstants.{OUT_OF_RANGE}

-- How messages are compared: by their numbers or with the one flag by their payloads alone, and their payloads by their
-- bytes or with the other flag by the packets that they unpack to. No other flag is known.
abbrev pub compared_by : ℕ → Option AuditBy
compared_by flags =
    if flags == 0 then Some (Numbers by.Bytes) else
    if flags == BY_PACKETS then Some (Numbers by.Packets) else
    if flags == UNNUMBERED then Some (Payloads by.Bytes) else
    if flags == BY_PACKETS + UNNUMBERED then Some (Payloads by.Packets) else
    None

-- SENT was audited against RECEIVED in this way.
abbrev pub IsAudited : AuditBy → List ℕ → List ℕ → List HartRowNumbers → List Arrival → List LostRun → List ByteRun
    → PathEnd → Type 0
IsAudited (Numbers by) = IsAuditedAll by
IsAudited (Payloads by) = IsAuditedUnnumbered by

-- All harts were audited, and it was reported. Or a flag is not known, SENT is refused, or an allocation failed: the
-- status says why, the place names the message of SENT that is refused, and nothing else was written.
pub data ReportsAuditAll (how : Option AuditBy) (sent received : List ℕ) (status : ℕ) (old new : Arrays)
    (place_before place : SentPlace) (end_before end : PathEnd) : Type 0 where
  OutOfRange : how ≡ None → status ≡ OUT_OF_RANGE → place ≡ place_before → new ≡ old → end ≡ end_before
      → ReportsAuditAll how sent received status old new place_before place end_before end
  Found : (own : AuditBy) → how ≡ Some own
      → (rows : List HartRowNumbers) (arrivals : List Arrival) (lost : List LostRun) (runs : List ByteRun)
      → IsAudited own sent received rows arrivals lost runs end → AreGiven rows arrivals lost runs status old new
      → place ≡ place_before
      → ReportsAuditAll how sent received status old new place_before place end_before end
  Refused : (own : AuditBy) → how ≡ Some own → (why : SentFault) → IsSentFault sent why → status ≡ sent_status why
      → place ≡ sent_place why → new ≡ old → end ≡ end_before
      → ReportsAuditAll how sent received status old new place_before place end_before end
