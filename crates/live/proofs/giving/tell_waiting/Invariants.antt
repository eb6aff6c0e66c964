-- What waits of so many harts was told.
use Rattle.std.specs.List.{flat_map, range_with_len}
use Rattle.live.specs.Auditing.{waiting_in}
use Rattle.live.specs.Live.{strange_lines}
use Rattle.live.proofs.giving.tell_waiting.Given as goal

abbrev pub invariant-loop-waiting : goal.invariant-loop-waiting
invariant-loop-waiting g l =
    g.L.LiveLines.Told l.fn.lines
    (flat_map (λ hart. strange_lines (waiting_in l.waiting hart)) (range_with_len 0 l.waiting-index)) l.lines
