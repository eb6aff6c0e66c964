-- What a hole with a width writes is a lemma on lists.
use Rattle.std.proofs.Common.{rules}
use Rattle.std.proofs.Output.{has_written_of_eq}
use Rattle.explaining.proofs.DigitsLemmas.{code_of_2, code_of_4}
use Rattle.explaining.proofs.code.CodeDisplay.fmt.Goals as goal

pub returns-then-self-eq2-clause-writes : goal.returns-then-self-eq2-clause-writes
returns-then-self-eq2-clause-writes g c = λ plain written.
    has_written_of_eq _ _ _ _ _ (code_of_2 _ _ c.if-self-eq2.true) (search rules)

pub returns-else-self-eq2-clause-writes : goal.returns-else-self-eq2-clause-writes
returns-else-self-eq2-clause-writes g c = λ plain written.
    has_written_of_eq _ _ _ _ _ (code_of_4 _ _ c.if-self-eq2.false) (search rules)
