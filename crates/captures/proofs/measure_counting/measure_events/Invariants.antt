use Rattle.std.proofs.Common.{◌≡◌, [], take}
use Rattle.captures.specs.Measures.{measured}
use Rattle.captures.proofs.measure_counting.measure_events.Given as goal

-- The events so far are counted.
abbrev pub invariant-loop-event : goal.invariant-loop-event
invariant-loop-event l = l.measures ≡ measured (take l.event-index l.events) [] []
