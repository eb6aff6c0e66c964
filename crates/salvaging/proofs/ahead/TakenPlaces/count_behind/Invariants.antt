-- The levels so far are counted.
use Rattle.std.proofs.Common.{◌≡◌, ◌+◌, ◌<◌, ℕ, drop}
use Rattle.salvaging.specs.steps.Ahead.{AreLevels, blocks_behind, flags_behind, lists_in}
use Rattle.salvaging.proofs.ahead.TakenPlaces.count_behind.Given as goal

abbrev pub invariant-loop-level : goal.invariant-loop-level
invariant-loop-level g l = record {
  long : ℕ;
  within : l.at < long;
  are : AreLevels long (lists_in (drop l.level-index l.self.levels.items));
  counted : l.count + blocks_behind l.at (lists_in (drop l.level-index l.self.levels.items))
      ≡ flags_behind l.place l.self.taken.items (lists_in l.self.levels.items);
}
