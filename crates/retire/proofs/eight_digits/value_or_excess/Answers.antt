-- The table is held against the value of each of the 256 bytes, by computing.
use Rattle.std.proofs.Common.{◌≡◌, arith, get_or, refl}
use Rattle.retire.specs.declared.eight_digits.TheConstants.{VALUES_OR_EXCESS}
use Rattle.retire.specs.steps.Excess.{value_or_excess}
use Rattle.retire.proofs.EightDigitsLemmas.{low_value}
use Rattle.retire.proofs.TableLemmas.{agree_below, table-at}
use Rattle.retire.proofs.eight_digits.value_or_excess.Goals as goal

pub returns : goal.returns
unfolding agree_below
returns c =
    let is : get_or VALUES_OR_EXCESS c.args.byte 0 ≡ value_or_excess c.args.byte =
    table-at VALUES_OR_EXCESS value_or_excess 256 c.args.byte (omega arith) refl in
    rw c.from.ensures (record {
      value = is;
      low = rw is (low_value c.args.byte);
    })
