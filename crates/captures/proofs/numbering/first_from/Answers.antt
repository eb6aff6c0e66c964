-- What is left of a number is not above it: by a lemma on numbers.
use Rattle.std.proofs.Common.{arith}
use Rattle.captures.proofs.Lowest.{rest_within}
use Rattle.captures.proofs.numbering.first_from.Goals as goal

pub overflow_sub-lowest : goal.overflow_sub-lowest
overflow_sub-lowest c = omega (arith, rest_within c.args.lowest c.args.numbers)
