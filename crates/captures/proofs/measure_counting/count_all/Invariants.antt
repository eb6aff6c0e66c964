use Rattle.std.proofs.Common.{◌≡◌, [], All, map, take}
use Rattle.payload.specs.Profile.{InProfile}
use Rattle.payload.specs.Spelling.{payload_of}
use Rattle.captures.specs.Measures.{measured, together}
use Rattle.captures.specs.steps.Counting.{GrowsBy}
use Rattle.captures.proofs.measure_counting.count_all.Given as goal

-- The packets so far are counted.
abbrev pub invariant-loop-packet : goal.invariant-loop-packet
invariant-loop-packet l =
    let front = take l.packet-index l.packets in record {
      value : All InProfile l.packets → l.measures ≡ together l.fn.measures (measured [] front (map payload_of front));
      grows : GrowsBy l.packet-index l.fn.measures l.measures;
    }
