-- The digits are named by hand, the highest first.
use Rattle.std.proofs.Common.{arith}
use Rattle.retire.proofs.ShortLineLemmas.{glyph-low, short-line}
use Rattle.retire.proofs.short_line.short_line.Goals as goal

pub returns : goal.returns
returns c =
    rw (
      c.pair_of-first.ensures.first,
      c.pair_of-first.ensures.second,
      c.pair_of-second.ensures.first,
      c.pair_of-second.ensures.second,
      c.pair_of-third.ensures.first,
      c.pair_of-third.ensures.second,
      c.pair_of-last.ensures.first,
      c.pair_of-last.ensures.second,
      glyph-low c.args.itype (omega arith),
      glyph-low c.args.privilege (omega arith),
    ) (short-line c.args.addr c.args.itype c.args.privilege (omega arith) (omega arith) (omega arith) (omega arith))
