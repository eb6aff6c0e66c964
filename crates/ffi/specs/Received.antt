-- What a call reports of a hart's message, where others may be lost.
use Rattle.std.specs.Prelude.{ℕ, ◌≡◌, ◌≢◌, ◌+◌, ◌-◌, ◌<◌, ◌==◌, nat_lt, if◌then◌else◌, List, Option, Some, None, Ok}
use Rattle.std.specs.Prelude.{Err}
use Rattle.std.specs.Option.{unwrap_or}
use Rattle.message.specs.Harts.{end_of_numbers, is_over}
use Rattle.message.specs.declared.hart.Hart.{Hart}
use Rattle.payload.specs.Reading.{reading}
use Rattle.payload.specs.declared.fault.PackFault.{PackFault}
use Rattle.payload.specs.declared.mode.Mode.{Mode}
use Rattle.payload.specs.declared.packet.Packet.{Packet}
use Rattle.ffi.specs.DecoderKept.{AreOfDecoder, HaveMode, PassOver}
use Rattle.ffi.specs.Encoded.{mode_of}
use Rattle.ffi.specs.Fed.{ReportsFeed}
use Rattle.ffi.specs.Images.{Judged}
use Rattle.ffi.specs.Statuses.{pack_status}
use Rattle.ffi.specs.declared.decoder_state.DecoderNumbers.{DecoderNumbers}
use Rattle.ffi.specs.declared.decoder_state.TheConstants.{CLOSED}
use Rattle.ffi.specs.declared.events.EventNumbers.{EventNumbers}
use Rattle.ffi.specs.declared.receiving.HartNumbers.{HartNumbers}
use Rattle.ffi.specs.declared.status.TheConstants.{AFTER_CLOSE, BAD_STATE, DONE, GAP, OUT_OF_RANGE, REPEAT}

-- A hart as a demultiplexer has it: the number that it expects, and whether its trace was closed.
abbrev pub hart_of : HartNumbers → Hart
hart_of hart = record { expected = hart.expected; closed = hart.decoder.phase == CLOSED }

-- Whether a hart's message may have this number, by the rules of a demultiplexer where messages may be lost: the trace
-- is over, the number is below the one that is expected, or it is at the end of numbers; or all is done.
abbrev pub number_status : HartNumbers → ℕ → ℕ
number_status hart number =
    if is_over (hart_of hart) then AFTER_CLOSE else
    if nat_lt number hart.expected then REPEAT else
    if nat_lt number end_of_numbers then DONE else
    OUT_OF_RANGE

-- What is reported of a message: its number is refused; or its payload is that of no packet; or numbers are missing
-- before it, from the expected one on, and it is not taken; or it is the expected one, and its payload is fed to the
-- decoder. Only where all is done the hart changes, and the next number is expected. Else nothing is written but how
-- many numbers are missing, or what a feed writes.
pub data ReportsReceive (image : Judged) (number : ℕ) (payload : List ℕ) (status : ℕ)
    (before after : HartNumbers) (count_before count missing_before missing : ℕ) (old new : List EventNumbers) : Type 0
  where
    Refused : number_status before number ≢ DONE → status ≡ number_status before number
        → after ≡ before → count ≡ count_before → missing ≡ missing_before → new ≡ old
        → ReportsReceive image number payload status before after count_before count missing_before missing old new
    NoPacket : number_status before number ≡ DONE → (why : PackFault) → reading payload ≡ Err why
        → status ≡ pack_status why
        → after ≡ before → count ≡ count_before → missing ≡ missing_before → new ≡ old
        → ReportsReceive image number payload status before after count_before count missing_before missing old new
    Missing : number_status before number ≡ DONE → (packet : Packet) → reading payload ≡ Ok packet
        → before.expected < number → status ≡ GAP → missing ≡ number - before.expected
        → after ≡ before → count ≡ count_before → new ≡ old
        → ReportsReceive image number payload status before after count_before count missing_before missing old new
    Received : number_status before number ≡ DONE → (packet : Packet) → reading payload ≡ Ok packet
        → number ≡ before.expected → (decoder : DecoderNumbers)
        → ReportsFeed image payload status before.decoder decoder count_before count old new
        → (status ≡ DONE → after ≡ record { decoder = decoder; expected = number + 1 })
        → (status ≢ DONE → after ≡ before) → missing ≡ missing_before
        → ReportsReceive image number payload status before after count_before count missing_before missing old new

-- The decoder passes over packets, in the mode that was announced, or, where none was, in this one. What was announced
-- stays.
pub record GoesOnIn (named : Mode) (before after : DecoderNumbers) : Type 0 where
  pub announced : Option Mode
  pub had : HaveMode announced before
  pub has : HaveMode announced after
  pub passes : PassOver (unwrap_or announced named) after
  pub again : AreOfDecoder after

-- What is reported of a hart that is to go on at a number: no decoder has its numbers; or no mode has this number; or
-- the number is refused; and then nothing is written. Or the hart expects the number, and its decoder goes on.
pub data ReportsResume (number mode status : ℕ) (before after : HartNumbers) : Type 0 where
  BadState : ¬ AreOfDecoder before.decoder → status ≡ BAD_STATE → after ≡ before
      → ReportsResume number mode status before after
  BadMode : AreOfDecoder before.decoder → mode_of mode ≡ None → status ≡ OUT_OF_RANGE → after ≡ before
      → ReportsResume number mode status before after
  BadNumber : AreOfDecoder before.decoder → (named : Mode) → mode_of mode ≡ Some named
      → number_status before number ≢ DONE → status ≡ number_status before number → after ≡ before
      → ReportsResume number mode status before after
  Resumed : AreOfDecoder before.decoder → (named : Mode) → mode_of mode ≡ Some named
      → number_status before number ≡ DONE → status ≡ DONE
      → after.expected ≡ number → GoesOnIn named before.decoder after.decoder
      → ReportsResume number mode status before after
