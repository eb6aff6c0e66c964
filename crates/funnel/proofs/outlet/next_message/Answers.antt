-- The prover needs the lemma that a take keeps the rule, also after a look that found nothing.
use Rattle.std.proofs.Common.{subst, sym}
use Rattle.funnel.specs.steps.Passes.{IsOutlet}
use Rattle.funnel.proofs.PassSteps.{may_take}
use Rattle.funnel.proofs.outlet.next_message.Goals as goal

pub try_recv_as-requires-clause-rule : goal.try_recv_as-requires-clause-rule
try_recv_as-requires-clause-rule g c = may_take _ _ _ c.requires.outlet.1

pub recv_as-requires-clause-rule : goal.recv_as-requires-clause-rule
recv_as-requires-clause-rule g c =
    let made = c.requires.outlet.0 in
    let same = c.in-Err-Empty.ensures.rule.0 in
    may_take _ made _ (subst (IsOutlet made) (sym same) c.requires.outlet.1)
