-- The table is held against std's digit at each of the 16 values, by computing.
use Rattle.std.proofs.Common.{arith, false, refl}
use Rattle.std.specs.Fmt.{digit_glyph}
use Rattle.retire.specs.declared.short_line.TheConstants.{DIGITS}
use Rattle.retire.proofs.TableLemmas.{agree_below, table-at}
use Rattle.retire.proofs.short_line.digit_of.Goals as goal

pub returns : goal.returns
unfolding agree_below
returns c = rw c.from.ensures (table-at DIGITS (digit_glyph false) 16 c.args.value (omega arith) refl)
