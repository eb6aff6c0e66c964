-- What a call reports of many steps of an encoder.
use Rattle.std.specs.Prelude.{ℕ, ◌≡◌, ◌<◌, ◌≤◌, ◌+◌, ◌*◌, ◌++◌, ◌∷◌, [], All, List, Some, Ok, Err, drop, length, map, slice_get}
use Rattle.std.specs.Prelude.{take}
use Rattle.encoder.specs.PacketsSoFar.{packets_so_far}
use Rattle.legalpath.specs.Legal.{Legal}
use Rattle.payload.specs.Profile.{InProfile}
use Rattle.payload.specs.declared.mode.Mode.{Mode}
use Rattle.payload.specs.declared.packet.Packet.{Packet}
use Rattle.retire.specs.declared.event.Event.{Event}
use Rattle.rvclass.specs.Fetch.{words_of}
use Rattle.rvclass.specs.Image.{Image}
use Rattle.ffi.specs.EncoderKept.{AreOfEncoder, NumbersStand}
use Rattle.ffi.specs.Events.{AreOfEvent, numbers_of_event}
use Rattle.ffi.specs.EventsChecked.{AreOfEvents}
use Rattle.ffi.specs.Images.{Judged}
use Rattle.ffi.specs.Numbers.{numbers_of}
use Rattle.ffi.specs.Statuses.{image_status}
use Rattle.ffi.specs.declared.encoder_state.EncoderNumbers.{EncoderNumbers}
use Rattle.ffi.specs.declared.events.EventNumbers.{EventNumbers}
use Rattle.ffi.specs.declared.fault.ImageFault.{ImageFault}
use Rattle.ffi.specs.declared.numbers.PacketNumbers.{PacketNumbers}
use Rattle.ffi.specs.declared.status.TheConstants.{DONE, TOO_SMALL, BAD_STATE, NO_EVENT}

-- How pushes of events end, the first so many of which were taken: the state is no encoder's; or it is one's, and the
-- image makes no program; or all events were taken; or those before the next one were, and the
-- packets of the next one have no room; or the next one is no event.
pub data EndsPushAll (image : Judged) (state : EncoderNumbers) (numbers : List EventNumbers)
    (taken status : ℕ) : Type 0 where
  BadState : ¬ AreOfEncoder state → taken ≡ 0 → status ≡ BAD_STATE
      → EndsPushAll image state numbers taken status
  NoProgram : AreOfEncoder state → (fault : ImageFault) → image ≡ Err fault → taken ≡ 0
      → status ≡ image_status fault
      → EndsPushAll image state numbers taken status
  AllTaken : AreOfEncoder state → (program : Image) → image ≡ Ok program
      → (events : List Event) → AreOfEvents numbers events → taken ≡ length numbers → status ≡ DONE
      → EndsPushAll image state numbers taken status
  NoRoom : AreOfEncoder state → (program : Image) → image ≡ Ok program
      → (events : List Event) → AreOfEvents (take taken numbers) events
      → (next : Event) → slice_get numbers taken ≡ Some (numbers_of_event next) → status ≡ TOO_SMALL
      → EndsPushAll image state numbers taken status
  NoEvent : AreOfEncoder state → (program : Image) → image ≡ Ok program
      → (events : List Event) → AreOfEvents (take taken numbers) events
      → (next : EventNumbers) → slice_get numbers taken ≡ Some next → ¬ AreOfEvent next → status ≡ NO_EVENT
      → EndsPushAll image state numbers taken status

-- An image makes a program, the numbers of a state stand for a log, and those of events are of these, which may come
-- next: the log with them is legal.
pub record AreNext (image : Judged) (program : Image) (period : ℕ) (mode : Mode) (log nexts : List Event)
    (state : EncoderNumbers) (numbers : List EventNumbers) : Type 0 where
  pub made : image ≡ Ok program
  pub stand : NumbersStand (words_of program) period mode log state
  pub are : AreOfEvents numbers nexts
  pub legal : Legal (words_of program) (log ++ nexts)

-- The packets by which the later ones are more than the earlier ones are at the start of the buffer, and what was after
-- them stays. All are of the profile.
pub record AreWritten (earlier later : List Packet) (count : ℕ) (old new : List PacketNumbers) : Type 0 where
  pub more : List Packet
  pub grown : later ≡ earlier ++ more
  pub profile : All InProfile more
  pub counted : count ≡ length more
  pub written : new ≡ map numbers_of more ++ drop count old

-- The packets by which the later ones are more than the earlier ones are the first of so many in the buffer. All are of
-- the profile.
pub record AreWrittenFirst (earlier later : List Packet) (count : ℕ) (new : List PacketNumbers) : Type 0 where
  pub more : List Packet
  pub grown : later ≡ earlier ++ more
  pub profile : All InProfile more
  pub within : length more ≤ count
  pub written : take (length more) new ≡ map numbers_of more

-- After so many packets in the buffer, those by which the later ones are more than the earlier ones have no room.
pub record HaveNoRoom (earlier later : List Packet) (count : ℕ) (old : List PacketNumbers) : Type 0 where
  pub more : List Packet
  pub grown : later ≡ earlier ++ more
  pub small : length old < count + length more

-- Whatever was pushed, the packets are two for each event at most, and fit into the buffer. What is after them stays.
pub record FillRoom (taken count : ℕ) (old new : List PacketNumbers) : Type 0 where
  pub two : count ≤ 2 * taken
  pub fit : count ≤ length old
  pub behind : drop count new ≡ drop count old

-- What is reported of pushes of events: how they end; where the log with the events that were taken is legal, the state
-- after it and its packets, and where that with the next one is, that those of the next one have no room; and what is
-- written whatever was pushed.
pub record ReportsPushAll (image : Judged) (numbers : List EventNumbers) (status : ℕ) (before after : EncoderNumbers)
    (taken count : ℕ) (old new : List PacketNumbers) : Type 0 where
  pub ends : EndsPushAll image before numbers taken status
  pub stands : (program : Image) (period : ℕ) (mode : Mode) (log nexts : List Event)
      → AreNext image program period mode log nexts before (take taken numbers)
      → NumbersStand (words_of program) period mode (log ++ nexts) after
  pub packets : (program : Image) (period : ℕ) (mode : Mode) (log nexts : List Event)
      → AreNext image program period mode log nexts before (take taken numbers)
      → AreWritten (packets_so_far (words_of program) period mode log)
      (packets_so_far (words_of program) period mode (log ++ nexts)) count old new
  -- The packets of the first events are written, as long as these are legal, whatever comes after them.
  pub front : (program : Image) (period n : ℕ) (mode : Mode) (log nexts : List Event) → n ≤ taken
      → AreNext image program period mode log nexts before (take n numbers)
      → AreWrittenFirst (packets_so_far (words_of program) period mode log)
      (packets_so_far (words_of program) period mode (log ++ nexts)) count new
  pub no_room : (program : Image) (period : ℕ) (mode : Mode) (log nexts : List Event) (next : Event)
      → status ≡ TOO_SMALL
      → AreNext image program period mode log (nexts ++ next ∷ []) before (take (taken + 1) numbers)
      → HaveNoRoom (packets_so_far (words_of program) period mode (log ++ nexts))
      (packets_so_far (words_of program) period mode (log ++ nexts ++ next ∷ [])) count old
  pub two : status ≡ TOO_SMALL → length old < count + 2
  pub fill : FillRoom taken count old new
  pub untaken : taken ≡ 0 → (after ≡ before) × (new ≡ old)
  pub again : AreOfEncoder before → AreOfEncoder after
