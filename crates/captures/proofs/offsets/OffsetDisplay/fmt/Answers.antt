-- What a hole with a width writes is a lemma on lists.
use Rattle.std.proofs.Common.{rules, arith}
use Rattle.std.proofs.Output.{has_written_of_eq}
use Rattle.explaining.proofs.DigitsLemmas.{code_of_4}
use Rattle.captures.proofs.offsets.OffsetDisplay.fmt.Goals as goal

pub returns-clause-writes : goal.returns-clause-writes
returns-clause-writes g c = λ plain written.
    has_written_of_eq _ _ _ _ _ (code_of_4 4 _ (λ same. omega (arith, same))) (search rules)
