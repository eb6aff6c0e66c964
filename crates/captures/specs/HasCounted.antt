-- Which events of a log are counted.
use Rattle.std.specs.Prelude.{ℕ, ◌≡◌, List, length, map}
use Rattle.retire.specs.declared.event.Event.{Event}
use Rattle.rvclass.specs.Words.{Words}
use Rattle.legalpath.specs.Legal.{Legal}
use Rattle.payload.specs.Spelling.{payload_of}
use Rattle.payload.specs.declared.mode.Mode.{Mode}
use Rattle.encoder.specs.EncoderStands.{EncoderStands}
use Rattle.encoder.specs.PacketsSoFar.{packets_so_far}
use Rattle.encoder.specs.declared.encoder.Encoder.{Encoder}
use Rattle.captures.specs.Measures.{measured}
use Rattle.captures.specs.declared.measures.Measures.{Measures}

-- The measures of the events of a log, and of the packets that are due before it is known what follows.
abbrev pub measured_so_far : Words → ℕ → Mode → List Event → Measures
measured_so_far words period mode log =
    measured log (packets_so_far words period mode log) (map payload_of (packets_so_far words period mode log))

-- What is kept of the events of a log so far: the encoder of their packets, their measures, and how many they are.
pub record Counted : Type 0 where
  pub encoder : Encoder
  pub measures : Measures
  pub rows : ℕ

-- Just these events are counted, which are a legal log. Of its packets at this period and in this mode, those are
-- counted that are due before it is known what follows.
pub record HasCounted (words : Words) (period : ℕ) (mode : Mode) (log : List Event) (counted : Counted) : Type 0 where
  pub legal : Legal words log
  pub stands : EncoderStands words period mode log counted.encoder
  pub value : counted.measures ≡ measured_so_far words period mode log
  pub rows : counted.rows ≡ length log
