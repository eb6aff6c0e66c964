use Rattle.std.proofs.Common.{◌≡◌, take}
use Rattle.std.specs.Io.KnownBytes.{Appends}
use Rattle.std.specs.List.{flat_map, list_any, zip}
use Rattle.log_commands.specs.Checking.{status_with}
use Rattle.log_commands.specs.steps.Checked.{input_in, is_refused, lines_of}
use Rattle.log_commands.proofs.checking.write_logs.Given as goal

-- The lines of the logs so far are written, and the status is theirs.
abbrev pub invariant-loop-i : goal.invariant-loop-i
invariant-loop-i g l = record {
  text : Appends (g.O.Write.contents l.fn.out) (g.O.Write.contents l.out)
      (flat_map (lines_of l.explain (input_in l.input)) (take l.i (zip l.paths l.verdicts)));
  ended : l.status ≡ status_with (list_any is_refused (take l.i l.verdicts));
}
