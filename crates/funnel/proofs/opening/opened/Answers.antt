-- The prover needs the lemma that a new channel keeps the rule.
use Rattle.funnel.proofs.RuleSteps.{begins}
use Rattle.funnel.proofs.opening.opened.Goals as goal

pub bounded_with-requires-clause-rule : goal.bounded_with-requires-clause-rule
bounded_with-requires-clause-rule g c = begins
