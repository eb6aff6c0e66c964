-- What a call reports of a payload that a decoder is fed.
use Rattle.std.specs.Prelude.{ℕ, ◌≡◌, ◌≢◌, ◌↔◌, ◌⊎◌, ◌+◌, ◌*◌, ◌/◌, ◌≤◌, ◌++◌, true, false, List, [], ◌∷◌, length}
use Rattle.std.specs.Prelude.{Option, Some, Result, Ok, Err, map}
use Rattle.decoder.specs.Describes.{Describes}
use Rattle.decoder.specs.Order.{IsOpen, open_packet}
use Rattle.decoder.specs.Resuming.{IsSync}
use Rattle.decoder.specs.declared.fault.DecodeFault.{DecodeFault}
use Rattle.decoder.specs.declared.fault.DecodeFault.TheVariants as decode
use Rattle.rvclass.specs.Memory.{byte_count}
use Rattle.payload.specs.ClosedTrace.{last_is_closing}
use Rattle.payload.specs.Closing.{is_closing_packet}
use Rattle.payload.specs.Reading.{reading}
use Rattle.payload.specs.declared.mode.Mode.{Mode}
use Rattle.payload.specs.declared.packet.Packet.{Packet}
use Rattle.retire.specs.declared.event.Event.{Event}
use Rattle.rvclass.specs.Fetch.{words_of}
use Rattle.rvclass.specs.Image.{Image}
use Rattle.rvclass.specs.Words.{Words}
use Rattle.ffi.specs.DecoderKept.{AreClosed, AreOfDecoder, HaveMode, NumbersStand, PassOver}
use Rattle.ffi.specs.Events.{numbers_of_event}
use Rattle.ffi.specs.Handed.{IsHandedOut}
use Rattle.ffi.specs.Images.{Judged}
use Rattle.ffi.specs.Statuses.{fault_status}
use Rattle.ffi.specs.declared.decoder_state.DecoderNumbers.{DecoderNumbers}
use Rattle.ffi.specs.declared.events.EventNumbers.{EventNumbers}
use Rattle.ffi.specs.declared.fault.Fault.{Fault}
use Rattle.ffi.specs.declared.fault.Fault.TheVariants.{Decode, NoProgram, Payload, State}
use Rattle.ffi.specs.declared.feeding.FedPayload.{FedPayload}
use Rattle.ffi.specs.declared.status.TheConstants.{DONE}

-- If the numbers before stand for packets and a log, those after stand for one packet more, and for the log with these
-- events added.
abbrev pub GoesOn : Words → Packet → DecoderNumbers → DecoderNumbers → List Event → Type 0
GoesOn words packet before after events =
    (packets : List Packet) (log : List Event) → NumbersStand words packets log before
    → NumbersStand words (packets ++ packet ∷ []) (log ++ events) after

-- The numbers before say that the trace was not closed, and those after are a decoder's again. The mode that was
-- announced stays, unless this packet opens the trace: then it is the one that this packet announces.
pub record KeepsMode (words : Words) (packet : Packet) (before after : DecoderNumbers) : Type 0 where
  pub not_closed : ¬ AreClosed before
  pub again : AreOfDecoder after
  pub announced : (mode : Mode) → packet ≡ open_packet mode → NumbersStand words [] [] before
      → HaveMode (Some mode) after
  pub mode_kept : (announced : Option Mode) → HaveMode announced before → ¬ IsOpen packet → HaveMode announced after

-- Where the numbers before are those of a decoder that passes over packets, a packet that is no synchronisation adds
-- nothing. It changes nothing, or closes the trace. A synchronisation begins a stretch, as if it came right after the
-- packet that opens a trace.
pub record PassesOn (words : Words) (packet : Packet) (before after : DecoderNumbers) (events : List Event) : Type 0
  where
    pub passed_over : (mode : Mode) → PassOver mode before → ¬ IsSync packet → is_closing_packet packet ≡ false
        → (after ≡ before) × (events ≡ [])
    pub closes : (mode : Mode) → PassOver mode before → is_closing_packet packet ≡ true
        → AreClosed after × (events ≡ [])
    pub begins : (mode : Mode) → PassOver mode before → IsSync packet
        → NumbersStand words (open_packet mode ∷ packet ∷ []) events after

-- The payload is that of a packet, which the decoder with these numbers took: after it the decoder has those numbers,
-- and these events were added, at most 64 for each two bytes of the image and two more.
pub record TakesPayload (image : Judged) (payload : List ℕ) (before after : DecoderNumbers) (events : List Event)
    : Type 0 where
  pub program : Image
  pub packet : Packet
  pub made : image ≡ Ok program
  pub read : reading payload ≡ Ok packet
  pub are : AreOfDecoder before
  pub goes_on : GoesOn (words_of program) packet before after events
  pub keeps : KeepsMode (words_of program) packet before after
  pub passes : PassesOn (words_of program) packet before after events
  pub short : length events ≤ 64 * (byte_count program / 2) + 2

-- If the numbers stand for packets, those and this packet describe no log, unless an allocation failed. The fault is
-- AfterClose if and only if the last of the packets closed the trace. It is NotOpened if and only if there are no
-- packets and this one opens no trace.
pub record Refuses (words : Words) (packet : Packet) (numbers : DecoderNumbers) (why : DecodeFault) : Type 0 where
  pub none : (packets : List Packet) (log : List Event) → NumbersStand words packets log numbers
      → (why ≡ decode.Memory) ⊎ ((other : List Event) → ¬ Describes words (packets ++ packet ∷ []) other)
  pub closed : (packets : List Packet) (log : List Event) → NumbersStand words packets log numbers
      → (why ≡ decode.AfterClose) ↔ (last_is_closing packets ≡ true)
  pub not_opened : (packets : List Packet) (log : List Event) → NumbersStand words packets log numbers
      → (why ≡ decode.NotOpened) ↔ ((packets ≡ []) × ¬ IsOpen packet)

-- The fault is AfterClose if and only if the numbers say that the trace was closed. A decoder that passes over packets
-- refuses only a synchronisation. The packet that opens a trace and this one describe no log then, unless an allocation
-- failed, and where it was they describe one. The fault is not NotOpened.
pub record RefusesByPhase (words : Words) (packet : Packet) (numbers : DecoderNumbers) (why : DecodeFault) : Type 0 where
  pub after_close : (why ≡ decode.AfterClose) ↔ AreClosed numbers
  pub passed_over : (mode : Mode) → PassOver mode numbers → IsSync packet
  pub begins_none : (mode : Mode) → PassOver mode numbers → (why ≡ decode.Memory)
      ⊎ ((other : List Event) → ¬ Describes words (open_packet mode ∷ packet ∷ []) other)
  pub begins_memory : (mode : Mode) → PassOver mode numbers → why ≡ decode.Memory
      → (other : List Event) × Describes words (open_packet mode ∷ packet ∷ []) other
  pub never_unopened : (mode : Mode) → PassOver mode numbers → why ≢ decode.NotOpened

-- The payload is that of a packet, which the decoder with these numbers refused.
pub record RefusesPayload (image : Judged) (payload : List ℕ) (numbers : DecoderNumbers) (why : DecodeFault) : Type 0
  where
    pub program : Image
    pub packet : Packet
    pub made : image ≡ Ok program
    pub read : reading payload ≡ Ok packet
    pub are : AreOfDecoder numbers
    pub refuses : Refuses (words_of program) packet numbers why
    pub by_phase : RefusesByPhase (words_of program) packet numbers why

-- The result of feeding a payload to a decoder with these numbers: it took the payload; or no decoder has these
-- numbers, the payload is that of no packet, the image makes no program, or the decoder refused
-- the packet.
abbrev pub IsFed : Judged → List ℕ → DecoderNumbers → Result FedPayload Fault → Type 0
IsFed image payload numbers (Ok fed) = TakesPayload image payload numbers fed.numbers fed.events.items
IsFed image payload numbers (Err State) = ¬ AreOfDecoder numbers
IsFed image payload numbers (Err (Payload why)) = reading payload ≡ Err why
IsFed image payload numbers (Err (NoProgram why)) = image ≡ Err why
IsFed image payload numbers (Err (Decode why)) = RefusesPayload image payload numbers why
IsFed image payload numbers (Err other) = ⊥

-- The decoder goes on where all is done, and else its numbers stay.
abbrev pub GoesOnIfDone : ℕ → DecoderNumbers → DecoderNumbers → DecoderNumbers → Type 0
GoesOnIfDone status before next after = (status ≡ DONE → after ≡ next) × (status ≢ DONE → after ≡ before)

-- The payload was taken, and its events were handed out; or it was not taken, the status says why, and nothing was
-- written. The numbers stay unless all is done.
pub data ReportsFeed (image : Judged) (payload : List ℕ) (status : ℕ) (before after : DecoderNumbers)
    (count_before count : ℕ) (old new : List EventNumbers) : Type 0 where
  Taken : (next : DecoderNumbers) (events : List Event) → TakesPayload image payload before next events
      → IsHandedOut (map numbers_of_event events) status count old new → GoesOnIfDone status before next after
      → ReportsFeed image payload status before after count_before count old new
  Refused : (fault : Fault) → IsFed image payload before (Err fault) → status ≡ fault_status fault
      → after ≡ before → count ≡ count_before → new ≡ old
      → ReportsFeed image payload status before after count_before count old new
