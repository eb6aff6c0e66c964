-- What a decoder plans to do with a packet.
use Rattle.std.specs.Prelude.{◌≡◌, ℕ, Bool, true, false, List, [], Option, Some, None, is_some, Result, Ok, Err}
use Rattle.std.specs.List.{last_or}
use Rattle.retire.specs.declared.event.Event.{Event}
use Rattle.rvclass.specs.Words.{Words}
use Rattle.legalpath.specs.LastPlace.{last_place}
use Rattle.legalpath.specs.Legal.{FollowOn}
use Rattle.payload.specs.AddressField.{aim}
use Rattle.payload.specs.Closing.{is_closing_packet}
use Rattle.payload.specs.declared.mode.Mode.{Mode}
use Rattle.payload.specs.declared.packet.Packet.{Packet}
use Rattle.payload.specs.declared.packet.Packet.TheVariants as packet
use Rattle.payload.specs.declared.packet.Support.TheVariants as support
use Rattle.decoder.specs.steps.Faults.{IsOnTheWay}
use Rattle.decoder.specs.Fits.{FitsAddress, Fits}
use Rattle.decoder.specs.steps.Stretches.{stretch_last, stretch_place, Gives, RightBefore}
use Rattle.decoder.specs.Settling.{settled_by}
use Rattle.decoder.specs.DecoderStands.{phase_after, waiting_after}
use Rattle.decoder.specs.declared.decoding.Decoder.{Decoder}
use Rattle.decoder.specs.declared.state.Phase.{Phase}
use Rattle.decoder.specs.declared.state.Phase.TheVariants.{Unopened, Running, PassingOver, Closed}
use Rattle.decoder.specs.declared.fault.DecodeFault.{DecodeFault}
use Rattle.decoder.specs.declared.fault.DecodeFault.TheVariants.{NotOpened, AfterClose}
use Rattle.decoder.specs.declared.added_events.AddedEvents.{AddedEvents}
use Rattle.decoder.specs.declared.settling.Waiting.{Waiting}

-- The packet may come in this phase of a trace, by its kind. One that opens a trace comes where none was opened,
-- `EndedRep` where a packet waits, and any other always.
abbrev pub MayCome : Phase → Option Waiting → Packet → Type 0
MayCome phase waiting (packet.Support (support.Open mode)) = phase ≡ Unopened
MayCome phase waiting (packet.Support support.EndedRep) = is_some waiting ≡ true
MayCome phase waiting other = Unit {0}

-- A trace that was not opened takes only a packet that opens it.
abbrev pub admitted_first : Packet → Result Unit DecodeFault
admitted_first (packet.Support (support.Open mode)) = Ok tt
admitted_first other = Err NotOpened

-- Whether the trace takes a packet in this phase, or the fault.
abbrev pub admitted : Phase → Packet → Result Unit DecodeFault
admitted Unopened packet = admitted_first packet
admitted Running packet = Ok tt
admitted PassingOver packet = Ok tt
admitted Closed packet = Err AfterClose

-- These are the events of the packet that waits, if one does, where this packet follows it in a trace in this mode.
abbrev pub FitsWaiting : Words → Mode → Option Event → ℕ → Option Waiting → Packet → List Event → Type 0
FitsWaiting words mode before reported None packet piece = piece ≡ []
FitsWaiting words mode before reported (Some waiting) packet piece =
    FitsAddress words before waiting.outcomes (aim mode reported waiting.delta) (settled_by (Some packet)) piece

-- The last reported address after the packet, where `reported` is the one before it, and `at` the place of its last
-- event.
abbrev pub reported_past : Packet → ℕ → ℕ → ℕ
reported_past (packet.Map taken) reported at = reported
reported_past other reported at = at

-- The packet can follow in a trace in this mode and phase, after the event `last` and the last reported address. The
-- events `settled` are those of the packet that waits, if one does. The events `of_packet` are those of the packet
-- itself.
pub record CanFollow (words : Words) (mode : Mode) (phase : Phase) (waiting : Option Waiting) (last : Option Event)
    (reported : ℕ) (packet : Packet) (settled of_packet : List Event) : Type 0 where
  pub admits : admitted phase packet ≡ Ok tt
  pub comes : MayCome phase waiting packet
  pub settles : FitsWaiting words mode last reported waiting packet settled
  pub settled_follows : FollowOn words last settled
  pub fits : Fits words mode (last_or last settled) (last_place reported settled) packet None of_packet
  pub follows : FollowOn words (last_or last settled) of_packet

-- The packet can follow so after what a decoder remembers.
abbrev pub CanFollowAt : Words → Decoder → Packet → List Event → List Event → Type 0
CanFollowAt words decoder packet settled of_packet =
    CanFollow words decoder.mode decoder.phase decoder.waiting decoder.last decoder.reported packet settled of_packet

-- The mode after the packet: the one that it announces, where it opens a trace, or else this one.
abbrev pub mode_past : Packet → Mode → Mode
mode_past (packet.Support (support.Open announced)) mode = announced
mode_past other mode = mode

-- The announced mode after the packet: the one that it announces, where it opens a trace, or else the one that was
-- announced before, if one was.
abbrev pub announced_past : Packet → Option Mode → Option Mode
announced_past (packet.Support (support.Open announced)) before = Some announced
announced_past other before = before

-- The phase after a packet that is passed over, which closes the trace where this is true.
abbrev pub passing_or_closed : Bool → Phase → Phase
passing_or_closed true phase = Closed
passing_or_closed false phase = phase

-- The decoder after a packet that is passed over.
abbrev pub passed_over : Decoder → Packet → Decoder
passed_over decoder packet = record decoder { phase = passing_or_closed (is_closing_packet packet) decoder.phase }

-- The decoder after the packet, where it adds these stretches.
abbrev pub decoder_after : Decoder → Packet → AddedEvents → AddedEvents → Decoder
decoder_after decoder packet settled of_packet = record {
  phase = phase_after (Some packet);
  waiting = waiting_after (Some packet);
  mode = mode_past packet decoder.mode;
  announced = announced_past packet decoder.announced;
  last = stretch_last (stretch_last decoder.last settled) of_packet;
  reported =
      reported_past packet (stretch_place decoder.reported settled)
      (stretch_place (stretch_place decoder.reported settled) of_packet);
}

-- The stretches have events that can follow, where the last event before them is right: first those of the packet that
-- waits, then those of the packet itself.
pub record Plans (words : Words) (decoder : Decoder) (packet : Packet) (first second : AddedEvents) : Type 0 where
  pub settled : List Event
  pub of_packet : List Event
  pub gives_settled : Gives words first settled
  pub gives_of_packet : Gives words second of_packet
  pub can : RightBefore words decoder.last → CanFollowAt words decoder packet settled of_packet

-- The fault is the one of this result, or, where it has none, one of those on the way.
abbrev pub IsNamed : Result Unit DecodeFault → DecodeFault → Type 0
IsNamed (Ok admitted) fault = IsOnTheWay fault
IsNamed (Err first) fault = fault ≡ first

-- No events can follow, where the last event before them is right. The fault is the one of a packet that the trace does
-- not take, or else one of those on the way.
pub record PlansNone (words : Words) (decoder : Decoder) (packet : Packet) (fault : DecodeFault) : Type 0 where
  pub named : IsNamed (admitted decoder.phase packet) fault
  pub none :
      RightBefore words decoder.last → (settled of_packet : List Event) →
      CanFollowAt words decoder packet settled of_packet → ⊥
