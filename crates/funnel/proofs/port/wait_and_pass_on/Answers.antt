-- A pass whose message came back may send it again: by a lemma, which a search would take for each part of it alone.
use Rattle.std.proofs.Common.{◌∙◌}
use Rattle.funnel.proofs.PassSteps.{still_may}
use Rattle.funnel.proofs.port.wait_and_pass_on.Goals as goal

pub loop-preserved : goal.loop-preserved
loop-preserved g c =
    let before = c.loop.invariant in
    let refused = rw c.in-Err-Full.field-0-is at c.in-Err-Full.ensures.refused in
    record {
      may = still_may _ _ _ _ _ _ before.may c.try_pass_on.ensures.seat refused.1 refused.0;
      funnel = c.try_pass_on.ensures.funnel ∙ before.funnel;
      known = refused.1 ∙ before.known;
      same = refused.0 ∙ before.same;
    }
