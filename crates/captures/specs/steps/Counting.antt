-- How events and packets are counted, by the measures so far.
use Rattle.std.specs.Prelude.{ℕ, ◌≡◌, ◌+◌, ◌*◌, ◌≤◌, ◌-◌, ◌^◌, ◌++◌, List, [], ◌∷◌, map}
use Rattle.retire.specs.declared.event.Event.{Event}
use Rattle.rvclass.specs.Words.{Words}
use Rattle.legalpath.specs.Legal.{Legal}
use Rattle.payload.specs.Spelling.{payload_of}
use Rattle.payload.specs.declared.mode.Mode.{Mode}
use Rattle.payload.specs.declared.packet.Packet.{Packet}
use Rattle.encoder.specs.EncoderStands.{EncoderStands}
use Rattle.encoder.specs.PacketsSoFar.{packets_so_far}
use Rattle.encoder.specs.declared.encoder.Encoder.{Encoder}
use Rattle.captures.specs.Bounds.{AreWithin}
use Rattle.captures.specs.Measures.{measured}
use Rattle.captures.specs.declared.measures.Measures.{Measures}

-- The measures of a packet whose payload has this many bytes.
abbrev pub packet_measures : Packet → ℕ → Measures
packet_measures packet bytes = record (measured [] (packet ∷ []) []) { payload_bytes = bytes; longest = bytes }

-- If the measures were within a bound, they are within one that is this much greater.
abbrev pub GrowsBy : ℕ → Measures → Measures → Type 0
GrowsBy more old new = (limit : ℕ) → AreWithin limit old → AreWithin (limit + more) new

-- The packets of these events of a log are counted, whatever events are.
pub record PacketsCounted (words : Words) (period : ℕ) (mode : Mode) (events log : List Event) (encoder : Encoder)
    (measures : Measures) : Type 0 where
  pub stands : EncoderStands words period mode log encoder
  pub value : measures
      ≡ measured events (packets_so_far words period mode log) (map payload_of (packets_so_far words period mode log))

-- The packets of these events are counted after those of any log that they follow on.
abbrev pub CountsPackets : Words → List Event → Encoder → Measures → Encoder → Measures → Type 0
CountsPackets words more encoder measures encoder_after measures_after =
    (period : ℕ) (mode : Mode) (events log : List Event) →
    PacketsCounted words period mode events log encoder measures →
    Legal words (log ++ more) →
    PacketsCounted words period mode events (log ++ more) encoder_after measures_after

-- What a counter keeps: each event may give a packet, and one packet opens the trace.
pub record AreKept (measures : Measures) : Type 0 where
  pub few : measures.events ≤ 2 ^ 32 - 1
  pub within : AreWithin (2 * measures.events + 1) measures
