use Rattle.std.proofs.Common.{◌≡◌, ◌≤◌, length}
use Rattle.rvclass.specs.Fetch.{words_of}
use Rattle.captures.specs.steps.Counting.{GrowsBy}
use Rattle.captures.proofs.PacketsInPieces.{CountsFront}
use Rattle.captures.proofs.measure_counting.count_packets.Given as goal

-- The packets of the events that were taken are counted, and each took an event.
abbrev pub invariant-loop : goal.invariant-loop
invariant-loop l = record {
  counts : CountsFront (words_of l.program) l.fn.events l.taken l.fn.encoder l.fn.measures l.encoder l.measures;
  grows : GrowsBy l.taken l.fn.measures l.measures;
  events : l.measures.events ≡ l.fn.measures.events;
  some : l.counter ≤ l.taken;
  within : l.taken ≤ length l.fn.events;
}
