-- What a call reports of a step of an encoder.
use Rattle.std.specs.Prelude.{ℕ, ◌≡◌, ◌≢◌, ◌<◌, ◌≤◌, ◌⊎◌, ◌==◌, ◌||◌, ◌++◌, All, is_none, if◌then◌else◌, List}
use Rattle.std.specs.Prelude.{Ok, Err, drop, length, map}
use Rattle.encoder.specs.Packets.{packets as packets_of}
use Rattle.encoder.specs.PacketsSoFar.{packets_so_far}
use Rattle.legalpath.specs.Legal.{Legal}
use Rattle.payload.specs.Profile.{InProfile}
use Rattle.payload.specs.declared.mode.Mode.{Mode}
use Rattle.payload.specs.declared.packet.Packet.{Packet}
use Rattle.retire.specs.declared.event.Event.{Event}
use Rattle.rvclass.specs.Fetch.{words_of}
use Rattle.rvclass.specs.Image.{Image}
use Rattle.ffi.specs.Encoded.{mode_of}
use Rattle.ffi.specs.EncoderKept.{AreOfEncoder, NumbersStand}
use Rattle.ffi.specs.Handed.{IsHandedOut}
use Rattle.ffi.specs.Images.{Judged}
use Rattle.ffi.specs.Numbers.{numbers_of}
use Rattle.ffi.specs.Statuses.{image_status}
use Rattle.ffi.specs.declared.encoder_state.EncoderNumbers.{EncoderNumbers}
use Rattle.ffi.specs.declared.fault.ImageFault.{ImageFault}
use Rattle.ffi.specs.declared.numbers.PacketNumbers.{PacketNumbers}
use Rattle.ffi.specs.declared.status.TheConstants.{DONE, TOO_SMALL, OUT_OF_RANGE, BAD_STATE}

-- How a new encoder is asked for: the period is 1 or more, and a mode has this number; or one of them is out of range.
abbrev pub new_status : ℕ → ℕ → ℕ
new_status period mode = if (period == 0) || is_none (mode_of mode) then OUT_OF_RANGE else DONE

-- The image makes no program, and the status says why; or it makes a program, and the buffer was large enough, or it
-- was too small.
abbrev pub EndsByProgram : Judged → ℕ → Type 0
EndsByProgram image status =
    ((fault : ImageFault) × (image ≡ Err fault) × (status ≡ image_status fault))
    ⊎ ((program : Image) × (image ≡ Ok program) × ((status ≡ DONE) ⊎ (status ≡ TOO_SMALL)))

-- How a call for the end of a log ends: the state is no encoder's; or the image and the size of the buffer decide.
abbrev pub EndsFinish : Judged → EncoderNumbers → ℕ → Type 0
EndsFinish image state status =
    ((AreOfEncoder state → ⊥) × (status ≡ BAD_STATE)) ⊎ (AreOfEncoder state × EndsByProgram image status)

-- An image makes a program, and the numbers of a state stand for a legal log of it.
pub record IsOn (image : Judged) (program : Image) (period : ℕ) (mode : Mode) (log : List Event)
    (state : EncoderNumbers) : Type 0 where
  pub made : image ≡ Ok program
  pub stand : NumbersStand (words_of program) period mode log state
  pub legal : Legal (words_of program) log

-- The packets by which the later ones are more than the earlier ones are handed out. All are of the profile.
pub record AreMore (earlier later : List Packet) (status count : ℕ) (old new : List PacketNumbers) : Type 0 where
  pub more : List Packet
  pub grown : later ≡ earlier ++ more
  pub profile : All InProfile more
  pub handed : IsHandedOut (map numbers_of more) status count old new

-- Whatever was pushed, the packets that are wanted are two at most. Where all is done, they fit into the buffer, and
-- where it is too small, they do not. What is after them in the buffer stays.
pub record AreFew (status count : ℕ) (old new : List PacketNumbers) : Type 0 where
  pub two : count ≤ 2
  pub fit : status ≡ DONE → count ≤ length old
  pub small : status ≡ TOO_SMALL → length old < count
  pub behind : drop count new ≡ drop count old

-- What is reported of the end of a log: how it ends; the packets that are left of a legal log; and, whatever was pushed,
-- what is written where all is done, and that nothing is where it is not.
pub record ReportsFinish (image : Judged) (state : EncoderNumbers) (status count_before count : ℕ)
    (old new : List PacketNumbers) : Type 0 where
  pub ends : EndsFinish image state status
  pub packets : (program : Image) (period : ℕ) (mode : Mode) (log : List Event)
      → IsOn image program period mode log state
      → AreMore (packets_so_far (words_of program) period mode log) (packets_of (words_of program) period mode log)
      status count old new
  pub refused : status ≢ DONE → new ≡ old
  pub counted : status ≢ DONE → status ≢ TOO_SMALL → count ≡ count_before
  pub two : status ≡ TOO_SMALL → length old < 2
  pub few : (status ≡ DONE) ⊎ (status ≡ TOO_SMALL) → AreFew status count old new
