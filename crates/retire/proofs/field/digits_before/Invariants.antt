use Rattle.std.proofs.Common.{◌≤◌}
use Rattle.retire.proofs.NumberLemmas.{AreRead}
use Rattle.retire.proofs.field.digits_before.Given as goal

abbrev pub invariant-loop-i : goal.invariant-loop-i
invariant-loop-i l = record {
  few : l.i ≤ 16;
  read : AreRead l.text l.i l.value;
}
