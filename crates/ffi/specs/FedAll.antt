-- What a call reports of payloads that a decoder is fed, one after the other.
use Rattle.std.specs.Prelude.{ℕ, ◌≡◌, ◌<◌, ◌≤◌, ◌-◌, ◌++◌, List, [], ◌∷◌, Option, Some, None, Ok, Err, drop}
use Rattle.std.specs.Prelude.{length, map, slice_get, take}
use Rattle.decoder.specs.declared.fault.DecodeFault.{DecodeFault}
use Rattle.payload.specs.Reading.{reading}
use Rattle.payload.specs.declared.fault.PackFault.{PackFault}
use Rattle.retire.specs.declared.event.Event.{Event}
use Rattle.rvclass.specs.Image.{Image}
use Rattle.ffi.specs.DecoderKept.{AreOfDecoder}
use Rattle.ffi.specs.Encoded.{last_end, text_between}
use Rattle.ffi.specs.Events.{numbers_of_event}
use Rattle.ffi.specs.Fed.{RefusesPayload, TakesPayload}
use Rattle.ffi.specs.Images.{Judged}
use Rattle.ffi.specs.Statuses.{decode_status, image_status, pack_status}
use Rattle.ffi.specs.declared.decoder_state.DecoderNumbers.{DecoderNumbers}
use Rattle.ffi.specs.declared.events.EventNumbers.{EventNumbers}
use Rattle.ffi.specs.declared.fault.ImageFault.{ImageFault}
use Rattle.ffi.specs.declared.status.TheConstants.{BAD_STATE, DONE, OUT_OF_RANGE, TOO_SMALL}

-- There is a payload, and the decoder with these numbers takes it.
abbrev pub TakesIfAny : Judged → Option (List ℕ) → DecoderNumbers → DecoderNumbers → List Event → Type 0
TakesIfAny image None before after events = ⊥
TakesIfAny image (Some payload) before after events = TakesPayload image payload before after events

-- The payloads, of which the first begins here and each further one where the one before ends, are taken one after the
-- other: the decoder has those numbers after the last, and these events were added.
abbrev pub TakesAll : Judged → List ℕ → ℕ → List ℕ → DecoderNumbers → DecoderNumbers → List Event → Type 0
TakesAll image bytes from [] before after events = (after ≡ before) × (events ≡ [])
TakesAll image bytes from (end ∷ ends) before after events =
    (next : DecoderNumbers) × (first : List Event) × (rest : List Event)
    × TakesIfAny image (text_between bytes from end) before next first
    × TakesAll image bytes end ends next after rest × (events ≡ first ++ rest)

-- The payload with this number, counted from 0, is this one; or there is none, since its end is before its start or
-- past the bytes.
pub record IsPayloadAt (bytes ends : List ℕ) (place : ℕ) (payload : Option (List ℕ)) : Type 0 where
  pub end : ℕ
  pub at : slice_get ends place ≡ Some end
  pub is : payload ≡ text_between bytes (last_end 0 (take place ends)) end

-- Why a payload is not taken by the decoder with these numbers: there is none; or it is that of no packet; or the
-- decoder refuses the packet; or its events do not fit into this much room.
pub data IsNotTaken (image : Judged) (payload : Option (List ℕ)) (numbers : DecoderNumbers)
    (room status : ℕ) : Type 0 where
  NoPayload : payload ≡ None → status ≡ OUT_OF_RANGE → IsNotTaken image payload numbers room status
  NoPacket : (bytes : List ℕ) → payload ≡ Some bytes → (why : PackFault) → reading bytes ≡ Err why
      → status ≡ pack_status why
      → IsNotTaken image payload numbers room status
  Refused : (bytes : List ℕ) → payload ≡ Some bytes → (why : DecodeFault)
      → RefusesPayload image bytes numbers why → status ≡ decode_status why
      → IsNotTaken image payload numbers room status
  NoRoom : (bytes : List ℕ) → payload ≡ Some bytes → (next : DecoderNumbers) (events : List Event)
      → TakesPayload image bytes numbers next events → room < length events → status ≡ TOO_SMALL
      → IsNotTaken image payload numbers room status

-- How payloads end, the first so many of which were taken: all were; or the next one is not taken, for this reason.
pub data EndsFeeds (image : Judged) (bytes ends : List ℕ) (taken : ℕ) (numbers : DecoderNumbers) (room status : ℕ)
    : Type 0 where
  AllTaken : taken ≡ length ends → status ≡ DONE → EndsFeeds image bytes ends taken numbers room status
  Stops : (payload : Option (List ℕ)) → IsPayloadAt bytes ends taken payload
      → IsNotTaken image payload numbers room status
      → EndsFeeds image bytes ends taken numbers room status

-- The first payloads were taken, and their events are at the start of the buffer. What was after them stays.
pub record AreFed (image : Judged) (bytes ends : List ℕ) (before after : DecoderNumbers) (taken count : ℕ)
    (old new : List EventNumbers) : Type 0 where
  pub events : List Event
  pub taken_all : TakesAll image bytes 0 (take taken ends) before after events
  pub counted : count ≡ length events
  pub fit : count ≤ length old
  pub written : new ≡ map numbers_of_event events ++ drop count old

-- What is reported of payloads: no decoder has these numbers, or the image makes no program,
-- and none is taken; or some were taken, and it is reported how they end.
pub data ReportsFeedAll (image : Judged) (bytes ends : List ℕ) (status : ℕ) (before after : DecoderNumbers)
    (taken count : ℕ) (old new : List EventNumbers) : Type 0 where
  BadState : ¬ AreOfDecoder before → status ≡ BAD_STATE
      → taken ≡ 0 → count ≡ 0 → after ≡ before → new ≡ old
      → ReportsFeedAll image bytes ends status before after taken count old new
  NoProgram : AreOfDecoder before → (fault : ImageFault) → image ≡ Err fault → status ≡ image_status fault
      → taken ≡ 0 → count ≡ 0 → after ≡ before → new ≡ old
      → ReportsFeedAll image bytes ends status before after taken count old new
  Fed : AreOfDecoder before → (program : Image) → image ≡ Ok program
      → AreFed image bytes ends before after taken count old new
      → EndsFeeds image bytes ends taken after (length old - count) status
      → ReportsFeedAll image bytes ends status before after taken count old new
