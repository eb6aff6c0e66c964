-- Events that are pushed one after the other, as far as the buffer goes.
use Rattle.std.specs.Prelude.{ℕ, ◌≡◌, ◌<◌, ◌≤◌, ◌+◌, ◌*◌, ◌++◌, [], ◌∷◌, All, List, Some, drop, length, map, slice_get}
use Rattle.std.specs.Prelude.{take}
use Rattle.encoder.specs.EncoderStands.{EncoderStands}
use Rattle.encoder.specs.PacketsSoFar.{packets_so_far}
use Rattle.encoder.specs.declared.encoder.Encoder.{Encoder}
use Rattle.legalpath.specs.Legal.{Legal}
use Rattle.payload.specs.Profile.{InProfile}
use Rattle.payload.specs.declared.mode.Mode.{Mode}
use Rattle.payload.specs.declared.packet.Packet.{Packet}
use Rattle.retire.specs.declared.event.Event.{Event}
use Rattle.rvclass.specs.Words.{Words}
use Rattle.ffi.specs.Events.{AreOfEvent, numbers_of_event}
use Rattle.ffi.specs.EventsChecked.{AreOfEvents}
use Rattle.ffi.specs.Numbers.{numbers_of}
use Rattle.ffi.specs.declared.events.EventNumbers.{EventNumbers}
use Rattle.ffi.specs.declared.numbers.PacketNumbers.{PacketNumbers}
use Rattle.ffi.specs.declared.status.TheConstants.{DONE, TOO_SMALL, NO_EVENT}

-- An encoder stands for a log with more events, whose packets so far are more by these.
pub record StandsOn (words : Words) (period : ℕ) (mode : Mode) (log events : List Event) (encoder : Encoder)
    (packets : List Packet) : Type 0 where
  pub stands : EncoderStands words period mode (log ++ events) encoder
  pub grown : packets_so_far words period mode (log ++ events) ≡ packets_so_far words period mode log ++ packets
  pub profile : All InProfile packets

-- Whatever log an encoder stands for, the encoder after these events stands for it with them, where that is legal.
abbrev pub GoesOn : Words → Encoder → List Event → Encoder → List Packet → Type 0
GoesOn words before events after packets =
    (period : ℕ) (mode : Mode) (log : List Event) → EncoderStands words period mode log before
    → Legal words (log ++ events) → StandsOn words period mode log events after packets

-- Whatever log an encoder stands for, its packets so far are more by these with the next event, where that is legal.
abbrev pub Gives : Words → Encoder → Event → List Packet → Type 0
Gives words encoder next packets =
    (period : ℕ) (mode : Mode) (log : List Event) → EncoderStands words period mode log encoder
    → Legal words (log ++ next ∷ [])
    → packets_so_far words period mode (log ++ next ∷ []) ≡ packets_so_far words period mode log ++ packets

-- These packets begin with those by which the later ones are more than the earlier ones.
pub record BeginWith (earlier later packets : List Packet) : Type 0 where
  pub more : List Packet
  pub behind : List Packet
  pub grown : later ≡ earlier ++ more
  pub profile : All InProfile more
  pub whole : packets ≡ more ++ behind

-- Whatever log an encoder stands for, these packets begin with those of the first so many of these events, where the log
-- with these is legal, whatever comes after them.
abbrev pub GivesInTurn : Words → Encoder → List Event → List Packet → Type 0
GivesInTurn words before events packets =
    (period n : ℕ) (mode : Mode) (log : List Event) → EncoderStands words period mode log before
    → Legal words (log ++ take n events)
    → BeginWith (packets_so_far words period mode log) (packets_so_far words period mode (log ++ take n events)) packets

-- The next event was pushed, and its packets were written; or they have no room, and nothing changed.
pub data IsPushed (words : Words) (before : Encoder) (next : Event) (status : ℕ) (after : Encoder) (count : ℕ)
    (old new : List PacketNumbers) : Type 0 where
  Pushed : (packets : List Packet) → GoesOn words before (next ∷ []) after packets → length packets ≤ 2
      → count ≡ length packets → count ≤ length old → new ≡ map numbers_of packets ++ drop count old
      → status ≡ DONE
      → IsPushed words before next status after count old new
  NoRoom : (packets : List Packet) → Gives words before next packets → length packets ≤ 2
      → length old < length packets → status ≡ TOO_SMALL → after ≡ before → new ≡ old
      → IsPushed words before next status after count old new

-- The first so many events were pushed, and their packets were written.
pub record ArePushed (words : Words) (first : Encoder) (numbers : List EventNumbers) (taken : ℕ) (encoder : Encoder)
    (count : ℕ) (old new : List PacketNumbers) : Type 0 where
  pub events : List Event
  pub packets : List Packet
  pub read : AreOfEvents (take taken numbers) events
  pub goes : GoesOn words first events encoder packets
  pub turn : GivesInTurn words first events packets
  pub still : taken ≡ 0 → encoder ≡ first
  pub counted : count ≡ length packets
  pub two : count ≤ 2 * taken
  pub fit : count ≤ length old
  pub written : new ≡ map numbers_of packets ++ drop count old

-- Pushes end there: at the end of the events, or at one whose packets have no room, or at one that is none.
pub data EndsPushes (words : Words) (numbers : List EventNumbers) (taken : ℕ) (encoder : Encoder) (count : ℕ)
    (old : List PacketNumbers) (status : ℕ) : Type 0 where
  AllPushed : taken ≡ length numbers → status ≡ DONE → EndsPushes words numbers taken encoder count old status
  NoRoom : (next : Event) → slice_get numbers taken ≡ Some (numbers_of_event next)
      → (packets : List Packet) → Gives words encoder next packets → length packets ≤ 2
      → length old < count + length packets → status ≡ TOO_SMALL
      → EndsPushes words numbers taken encoder count old status
  NoEvent : (next : EventNumbers) → slice_get numbers taken ≡ Some next → ¬ AreOfEvent next → status ≡ NO_EVENT
      → EndsPushes words numbers taken encoder count old status

-- All events of a block were pushed, and their packets, at most one for each, were written.
pub record IsBlockPushed (words : Words) (first : Encoder) (block : List Event) (encoder : Encoder) (count : ℕ)
    (old new : List PacketNumbers) : Type 0 where
  pub packets : List Packet
  pub goes : GoesOn words first block encoder packets
  pub turn : GivesInTurn words first block packets
  pub counted : count ≡ length packets
  pub few : count ≤ length block
  pub written : new ≡ map numbers_of packets ++ drop count old

-- The first events of a block were pushed, up to one that made a packet due so many times.
pub record IsPartPushed (words : Words) (first : Encoder) (block : List Event) (at : ℕ) (encoder : Encoder)
    (place : ℕ) (old now : List PacketNumbers) : Type 0 where
  pub packets : List Packet
  pub goes : GoesOn words first (take at block) encoder packets
  pub turn : GivesInTurn words first (take at block) packets
  pub counted : place ≡ length packets
  pub far : place ≤ at
  pub within : at ≤ length block
  pub room : length now ≡ length old
  pub written : now ≡ map numbers_of packets ++ drop place old
