-- Both uses of `|` are taken apart first: the search tries no lemma on it.
use Rattle.std.proofs.Common.{arith}
use Rattle.ffi.proofs.NoneSet.{none_set}
use Rattle.ffi.proofs.events.is_retirement.Goals as goal

pub returns : goal.returns
returns c =
    rw (
      none_set c.from-4.result c.args.numbers.now.tval,
      c.from-4.ensures,
      none_set c.args.numbers.now.kind c.from-3.result,
    ) (grind arith)
