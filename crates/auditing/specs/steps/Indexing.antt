-- Counting and indexing the messages of SENT.
use Rattle.std.specs.Prelude.{ℕ, ◌≡◌, ◌++◌, All, false, List, [], Option, Some, None, Result, Ok, Err, length, map}
use Rattle.std.specs.Prelude.{◌∷◌, slice_get, slice_set}
use Rattle.message.specs.Capture.{capture}
use Rattle.message.specs.Cut.{IsMessage}
use Rattle.message.specs.OfHart.{of_hart}
use Rattle.message.specs.declared.fault.DemuxFault.{DemuxFault}
use Rattle.message.specs.declared.header.Header.{Header}
use Rattle.message.specs.declared.message.Message.{Message}
use Rattle.captures.specs.NoMessage.{BeginsNone}
use Rattle.auditing.specs.Ledger.{HartLedger}
use Rattle.auditing.specs.Sent.{AreInTurn, BeginsMisplaced, harts_in, next_number}
use Rattle.auditing.specs.declared.fault.SentFault.{SentFault}
use Rattle.auditing.specs.declared.fault.SentFault.TheVariants as fault

-- What is answered to a message, by why it is not the next of its hart, if it is not.
abbrev pub placed : Option DemuxFault → Result (Unit {0}) DemuxFault
placed None = Ok tt
placed (Some why) = Err why

-- The first messages of the bytes were counted, each of which is the one that comes next of its hart, where so many
-- harts may come: how many each hart has, and how many harts there are. This is left of the bytes.
pub record HasCounted (harts : ℕ) (bytes left : List ℕ) (counts : List ℕ) (highest number : ℕ) : Type 0 where
  pub messages : List Message
  pub ranges : All IsMessage messages
  pub whole : bytes ≡ capture messages ++ left
  pub in_turn : AreInTurn harts [] messages
  pub number_is : number ≡ length messages
  pub each : (hart : ℕ) → slice_get counts hart ≡ next_number harts messages hart
  pub highest_is : highest ≡ harts_in messages

-- Counting stops after so many messages of the bytes, each of which is the next one of its hart.
pub record StopsCounting (harts : ℕ) (bytes : List ℕ) (number : ℕ) (Refuses : List Message → List ℕ → Type 0)
    : Type 0 where
  pub messages : List Message
  pub rest : List ℕ
  pub ranges : All IsMessage messages
  pub whole : bytes ≡ capture messages ++ rest
  pub in_turn : AreInTurn harts [] messages
  pub number_is : number ≡ length messages
  pub refused : Refuses messages rest

-- Why the messages of the bytes are not counted, where so many harts may come.
abbrev pub IsCountFault : ℕ → List ℕ → SentFault → Type 0
IsCountFault harts bytes (fault.Unread number why) =
    StopsCounting harts bytes number (λ messages rest. BeginsNone rest why)
IsCountFault harts bytes (fault.Misplaced number why) =
    StopsCounting harts bytes number (BeginsMisplaced why harts)
IsCountFault harts bytes fault.Memory = Unit {0}

-- What is kept of a hart with these payloads before the first message of RECEIVED.
abbrev pub fresh : List (List ℕ) → HartLedger
fresh payloads = record {
  payloads = payloads;
  came = map (λ _. false) payloads;
  past = 0;
  latest = 0;
  counts = record { came = 0; strange = 0; changed = 0; repeated = 0; late = 0 };
}

-- The payloads of messages.
abbrev pub payloads_of : List Message → List (List ℕ)
payloads_of messages = map (λ (message : Message). message.payload) messages

-- Of each of so many harts the payloads of its messages are kept.
pub record AreIndexed (harts : ℕ) (messages : List Message) (index : List HartLedger) : Type 0 where
  pub count : length index ≡ harts
  pub each : (hart : ℕ) (own : HartLedger) → slice_get index hart ≡ Some own
      → own ≡ fresh (payloads_of (of_hart hart messages))

-- What is kept of a hart with one payload more.
abbrev pub longer : HartLedger → List ℕ → HartLedger
longer own payload = record own { payloads = own.payloads ++ payload ∷ []; came = own.came ++ false ∷ [] }

-- What is kept of harts with one payload more of a hart that was found, if it was.
abbrev pub added_found : List HartLedger → ℕ → List ℕ → Option HartLedger → List HartLedger
added_found index hart payload None = index
added_found index hart payload (Some own) = slice_set index hart (longer own payload)

-- What is kept of harts with one payload more of this hart.
abbrev pub added : List HartLedger → ℕ → List ℕ → List HartLedger
added index hart payload = added_found index hart payload (slice_get index hart)

-- How many harts SENT has: those that the header counts, or without a header so many.
abbrev pub harts_by : Option Header → ℕ → ℕ
harts_by None highest = highest
harts_by (Some header) highest = header.harts
