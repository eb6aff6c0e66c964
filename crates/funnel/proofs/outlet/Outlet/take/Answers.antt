-- The prover needs what the outlet knows once a message is taken.
use Rattle.std.proofs.Common.{◌++◌, ◌∷◌, [], ◌∙◌, ap, subst, sym}
use Rattle.message.specs.OfHart.{of_hart}
use Rattle.message.proofs.OfHartLemmas.{of_hart-next}
use Rattle.funnel.specs.Ends.{OutletView}
use Rattle.funnel.specs.Order.{AreInOrder}
use Rattle.funnel.specs.steps.Passes.{taken_by_outlet}
use Rattle.funnel.proofs.PassSteps.{took, took_in_order}
use Rattle.funnel.proofs.outlet.Outlet.take.Goals as goal

pub returns-in-Ok-clause-one_more : goal.returns-in-Ok-clause-one_more
returns-in-Ok-clause-one_more g c =
    let now = took _ _ _ _ c.self.invariant.1 c.in-Ok.ensures.taken in
    let message = c.in-Ok.message in
    let before = ap (λ (o : OutletView). o.taken ++ message ∷ []) c.self.view_is in
    ap (of_hart message.hart) (now.1 ∙ before) ∙ of_hart-next c.args.self.now.taken message

pub returns-in-Ok-clause-in_order : goal.returns-in-Ok-clause-in_order
returns-in-Ok-clause-in_order g c hart =
    let now = took _ _ _ _ c.self.invariant.1 c.in-Ok.ensures.taken in
    took_in_order _ _ now.0 now.2 hart

pub returns-in-Err-clause-in_order : goal.returns-in-Err-clause-in_order
returns-in-Err-clause-in_order g c hart =
    let is = c.in-Err.ensures.ended in
    let before = took_in_order _ _ c.self.invariant.1 is.1 hart in
    subst (λ v. AreInOrder hart (of_hart hart (taken_by_outlet v))) (sym is.0) before
