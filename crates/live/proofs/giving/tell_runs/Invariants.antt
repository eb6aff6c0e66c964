-- The runs of so many harts were told.
use Rattle.std.proofs.Common.{◌^◌, ◌≤◌, length}
use Rattle.std.specs.List.{flat_map, range_with_len}
use Rattle.live.specs.Auditing.{runs_in}
use Rattle.live.specs.Runs.{run_lines}
use Rattle.live.proofs.giving.tell_runs.Given as goal

abbrev pub invariant-loop-hart : goal.invariant-loop-hart
invariant-loop-hart g l =
    length l.runs ≤ 2 ^ 16
    → g.L.LiveLines.Told l.fn.lines
    (flat_map (λ hart. run_lines hart (runs_in l.runs hart)) (range_with_len 0 l.hart)) l.lines
