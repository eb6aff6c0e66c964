-- The levels so far are those below the rest.
use Rattle.std.proofs.Common.{◌≡◌, ◌++◌, ◌-◌, ℕ, All, List}
use Rattle.salvaging.specs.steps.Ahead.{AreLevels, lists_in}
use Rattle.salvaging.proofs.ahead.clear_levels.Given as goal

abbrev pub invariant-loop-long : goal.invariant-loop-long
invariant-loop-long g l = record {
  more : (rest : List (List ℕ)) → AreLevels l.long rest → AreLevels l.count (lists_in l.levels.items ++ rest);
  clear : All (λ level. All (λ n. n ≡ 0) level) (lists_in l.levels.items);
}

abbrev pub decreases-loop-long : goal.decreases-loop-long
decreases-loop-long g l = l.long - 64
