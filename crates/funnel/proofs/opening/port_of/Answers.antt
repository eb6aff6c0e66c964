-- The prover needs the lemma that handing out the next port keeps the rule.
use Rattle.funnel.proofs.PassSteps.{may_hand_out}
use Rattle.funnel.proofs.opening.port_of.Goals as goal

pub another-theirs-requires-clause-rule : goal.another-theirs-requires-clause-rule
another-theirs-requires-clause-rule g c = may_hand_out _ _ _ c.requires.next
