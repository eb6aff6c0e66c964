-- The levels so far have the place once more.
use Rattle.std.proofs.Common.{◌≡◌, ◌<◌, ◌++◌, ℕ, drop, length, take, true}
use Rattle.std.specs.Prelude.{slice_set}
use Rattle.salvaging.specs.steps.Ahead.{AreLevels, CanRaise, lists_in, raised}
use Rattle.salvaging.proofs.ahead.TakenPlaces.add.Given as goal

abbrev pub invariant-loop-k : goal.invariant-loop-k
invariant-loop-k g l = record {
  taken : l.self.taken.items ≡ slice_set l.fn.self.taken.items l.place true;
  count : length l.self.levels.items ≡ length l.fn.self.levels.items;
  long : ℕ;
  within : l.at < long;
  are : AreLevels long (lists_in (drop l.k l.self.levels.items));
  can : CanRaise l.at (lists_in (drop l.k l.self.levels.items));
  so_far : lists_in (take l.k l.self.levels.items) ++ raised l.at (lists_in (drop l.k l.self.levels.items))
      ≡ raised l.place (lists_in l.fn.self.levels.items);
}
