-- The audit of SENT before the first message of RECEIVED.
use Rattle.std.proofs.Common.{◌≡◌, inr, ℕ, All, List, [], ◌++◌, Option, Some, None, refl, sym, ap, subst}
use Rattle.std.proofs.Common.{◌∙◌, ◌-◌, Result, Ok, Err, IfOk, drop, length, take, append-nil}
use Rattle.std.proofs.lemmas.List.{take_rest}
use Rattle.std.specs.Prelude.{IfErr}
use Rattle.message.specs.Capture.{capture}
use Rattle.message.specs.Cut.{IsMessage}
use Rattle.message.specs.Header.{IsHeader, header_bytes}
use Rattle.message.specs.declared.header.Header.{Header}
use Rattle.message.specs.declared.message.Message.{Message}
use Rattle.captures.specs.NoMessage.{BeginsNone}
use Rattle.captures.specs.Whole.{BeginsWith}
use Rattle.payload.specs.declared.by.By.{By}
use Rattle.auditing.proofs.TakenKnown.{starts_known}
use Rattle.auditing.proofs.TallyLemmas.{unheard}
use Rattle.auditing.specs.Audits.{Audits}
use Rattle.auditing.specs.Ledger.{HartLedger, Ledger}
use Rattle.auditing.specs.Sent.{AreInTurn, BeginsMisplaced, IsSent, IsSentFault, StopsBehind, harts_in, harts_of}
use Rattle.auditing.specs.Sent.{known_harts}
use Rattle.auditing.specs.declared.fault.SentFault.{SentFault}
use Rattle.auditing.specs.declared.fault.SentFault.TheVariants as fault
use Rattle.auditing.specs.steps.Moving.{none_moved}
use Rattle.auditing.specs.steps.Indexing.{AreIndexed, HasCounted, IsCountFault, harts_by, StopsCounting}

-- The messages of these bytes are audited.
abbrev pub IsStarted : List ℕ → ℕ → Ledger → Type 0
IsStarted bytes harts ledger =
    (sent : List Message) × All IsMessage sent × (bytes ≡ capture sent) × AreInTurn harts [] sent
    × Audits sent [] ledger

-- The count of harts is that of SENT's.
counts_harts : (header : Option Header) (highest : ℕ) (sent : List Message) → highest ≡ harts_in sent
    → harts_by header highest ≡ harts_of header sent
counts_harts None highest sent is = is
counts_harts (Some header) highest sent is = refl

-- Messages that were counted and indexed are audited.
pub started : (how : By) (header : Option Header) (harts count highest number : ℕ) (bytes counts : List ℕ)
    (index : List HartLedger) (moves : List (List ℕ)) → moves ≡ none_moved count → harts ≡ known_harts header → HasCounted harts bytes [] counts highest number
    → count ≡ harts_by header highest
    → ((messages : List Message) → All IsMessage messages → bytes ≡ capture messages
    → AreIndexed count messages index)
    → IsStarted bytes harts (unheard how header index moves)
started how header harts count highest number bytes counts index moves none harts_is has count_is indexed =
    let sent = has.messages in
    let whole : bytes ≡ capture sent = has.whole ∙ append-nil (capture sent) in
    let turn : AreInTurn (known_harts header) [] sent = subst (λ h. AreInTurn h [] sent) harts_is has.in_turn in
    let counted : count ≡ harts_of header sent = count_is ∙ counts_harts header highest sent has.highest_is in (
      sent,
      has.ranges,
      whole,
      has.in_turn,
      subst
          (λ its. Audits sent [] (unheard how header index its)) (sym (none ∙ ap none_moved (sym (indexed sent has.ranges whole).count)))
          (starts_known how header sent index turn
          (subst (λ c. AreIndexed c sent index) counted (indexed sent has.ranges whole))),
    )

-- What stands behind a header, or without one, makes SENT whole.
pub sent_whole : (bytes rest : List ℕ) (header : Option Header) (harts : ℕ) (ledger : Ledger)
    → BeginsWith header bytes rest → harts ≡ known_harts header → ledger.header ≡ header → IsStarted rest harts ledger
    → (sent : List Message) × IsSent bytes ledger.header sent × Audits sent [] ledger
sent_whole bytes rest header harts ledger begins harts_is header_is is =
    (is.0, subst (λ h. IsSent bytes h is.0) (sym header_is) (at header begins harts_is), is.4)
  where
    at : (header : Option Header) → BeginsWith header bytes rest → harts ≡ known_harts header → IsSent bytes header is.0
    at header begins harts_is = record {
      whole = record { ranges = is.1; whole = subst (BeginsWith header bytes) is.2 begins };
      in_turn = subst (λ h. AreInTurn h [] is.0) harts_is is.3;
    }

-- What stops counting behind a header, or without one, stops SENT.
stops_behind : (bytes rest : List ℕ) (header : Option Header) (harts number : ℕ)
    (Refuses : ℕ → List Message → List ℕ → Type 0) → BeginsWith header bytes rest → harts ≡ known_harts header
    → StopsCounting harts rest number (Refuses harts) → StopsBehind bytes number Refuses
stops_behind bytes rest header harts number Refuses begins harts_is stops = record {
  header = header;
  messages = stops.messages;
  rest = stops.rest;
  ranges = stops.ranges;
  whole = subst (BeginsWith header bytes) stops.whole begins;
  in_turn = subst (λ h. AreInTurn h [] stops.messages) harts_is stops.in_turn;
  counted = stops.number_is;
  refused = subst (λ h. Refuses h stops.messages stops.rest) harts_is stops.refused;
}

-- It is the fault of SENT.
pub sent_stops : (bytes rest : List ℕ) (header : Option Header) (harts : ℕ) (why : SentFault)
    → BeginsWith header bytes rest → harts ≡ known_harts header → IsCountFault harts rest why → IsSentFault bytes why
sent_stops bytes rest header harts fault.Memory begins harts_is stops = tt
sent_stops bytes rest header harts (fault.Unread number why) begins harts_is stops =
    inr (stops_behind bytes rest header harts number (λ harts messages rest. BeginsNone rest why) begins harts_is stops)
sent_stops bytes rest header harts (fault.Misplaced number why) begins harts_is stops =
    stops_behind bytes rest header harts number (BeginsMisplaced why) begins harts_is stops

-- The same, by what is answered.
pub sent_started : (bytes rest : List ℕ) (header : Option Header) (harts : ℕ) (r : Result Ledger SentFault)
    → BeginsWith header bytes rest → harts ≡ known_harts header
    → IfOk r (λ (ledger : Ledger). (ledger.header ≡ header) × IsStarted rest harts ledger)
    → IfOk r (λ (ledger : Ledger). (sent : List Message) × IsSent bytes ledger.header sent × Audits sent [] ledger)
sent_started bytes rest header harts (Ok ledger) begins harts_is is =
    sent_whole bytes rest header harts ledger begins harts_is is.0 is.1
sent_started bytes rest header harts (Err why) begins harts_is is = tt

pub sent_refused : (bytes rest : List ℕ) (header : Option Header) (harts : ℕ) (r : Result Ledger SentFault)
    → BeginsWith header bytes rest → harts ≡ known_harts header
    → IfErr r (IsCountFault harts rest) → IfErr r (IsSentFault bytes)
sent_refused bytes rest header harts (Ok ledger) begins harts_is is = tt
sent_refused bytes rest header harts (Err why) begins harts_is is = sent_stops bytes rest header harts why begins harts_is is

-- A header in front of bytes, and what is behind it.
pub begins_header : (bytes left : List ℕ) (header : Header) → IsHeader header → bytes ≡ header_bytes header ++ left
    → BeginsWith (Some header) bytes (take (length bytes - 16) (drop 16 bytes))
begins_header bytes left header is begins =
    (is, begins ∙ ap (λ rest. header_bytes header ++ rest) (sym (take_rest bytes 16 ∙ ap (drop 16) begins)))
