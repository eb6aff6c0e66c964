-- The logs so far came back whole.
use Rattle.std.proofs.Common.{◌≡◌, drop}
use Rattle.std.specs.List.{list_all}
use Rattle.comparing.specs.Explained.{is_whole_sourced}
use Rattle.comparing.proofs.explanation.are_whole_harts.Given as goal

abbrev pub invariant-loop-one : goal.invariant-loop-one
invariant-loop-one l = list_all is_whole_sourced l.harts ≡ list_all is_whole_sourced (drop l.one-index l.harts)
