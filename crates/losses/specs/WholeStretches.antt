-- Where the stretches among a log's parts begin, and which events they have.
use Rattle.std.specs.Prelude.{◌≡◌, ◌≤◌, ◌<◌, ◌⊎◌, ◌++◌, ℕ, List, [], ◌∷◌, Some, length, slice_get, take}
use Rattle.retire.specs.declared.event.Event.{Event}
use Rattle.rvclass.specs.Words.{Words}
use Rattle.legalpath.specs.Join.{join}
use Rattle.payload.specs.declared.mode.Mode.{Mode}
use Rattle.payload.specs.declared.packet.Packet.{Packet}
use Rattle.payload.specs.declared.packet.Packet.TheVariants as packet
use Rattle.payload.specs.declared.packet.Support.TheVariants as support
use Rattle.encoder.specs.Packets.{packets}
use Rattle.decoder.specs.Fits.{IsReported}
use Rattle.decoder.specs.Resuming.{IsSync}
use Rattle.roundtrip.specs.Reach.{stretches, settled_events}
use Rattle.losses.specs.Parts.{LogPart, Events, Missing}

-- This number is among those that came.
abbrev pub NumberCame : ℕ → List ℕ → Type 0
NumberCame number [] = ⊥
NumberCame number (first ∷ numbers) = (number ≡ first) ⊎ NumberCame number numbers

-- Events of a log, which follow those before them, begin at this packet. Either it opens the trace, and there is no
-- event before them; or it is a synchronisation packet, and reports the first of them.
abbrev pub BeginsAt : Packet → List Event → List Event → Type 0
BeginsAt (packet.Sync taken priv address) before events =
    (event : Event) × (later : List Event) × (events ≡ event ∷ later) × IsReported taken priv address event
BeginsAt (packet.Support (support.Open mode)) before events = before ≡ []
BeginsAt other before events = ⊥

-- The events are a whole stretch of a log: all that the packets with the numbers from `first` up to below `end` settle.
-- These packets came, one at least, and the packet with the number `end` did not. The stretch begins at the packet with
-- the number `first`. The events of the packets before that one, and then these events, are all that the packets before
-- `end` settle.
pub record IsWholeStretch (words : Words) (period : ℕ) (mode : Mode) (log : List Event) (numbers : List ℕ)
    (first end : ℕ)
    (events : List Event) : Type 0 where
  pub some : first < end
  pub came : (number : ℕ) → first ≤ number → number < end → NumberCame number numbers
  pub lost : ¬ NumberCame end numbers
  pub packet : Packet
  pub here : slice_get (packets words period mode log) first ≡ Some packet
  pub begins : BeginsAt packet (join (take first (stretches words period log))) events
  pub holds : settled_events words period mode log end ≡ join (take first (stretches words period log)) ++ events

-- No synchronisation packet came with a number from one on and below another.
abbrev pub NoSyncCame : List Packet → List ℕ → ℕ → ℕ → Type 0
NoSyncCame packets numbers from below =
    (number : ℕ) (packet : Packet) → from ≤ number → number < below → NumberCame number numbers
    → slice_get packets number ≡ Some packet → ¬ IsSync packet

-- From the packet with this number on, each stretch among the parts is whole and comes after the one before it, and no
-- synchronisation packet that came is left out.
abbrev pub AreWholeStretches : Words → ℕ → Mode → List Event → List ℕ → ℕ → List LogPart → Type 0
AreWholeStretches words period mode log numbers from [] =
    NoSyncCame (packets words period mode log) numbers from (length (packets words period mode log))
AreWholeStretches words period mode log numbers from (Missing count ∷ parts) =
    AreWholeStretches words period mode log numbers from parts
AreWholeStretches words period mode log numbers from (Events events ∷ parts) =
    (first : ℕ) × (end : ℕ) × (from ≤ first) × NoSyncCame (packets words period mode log) numbers from first
    × IsWholeStretch words period mode log numbers first end events
    × AreWholeStretches words period mode log numbers end parts
