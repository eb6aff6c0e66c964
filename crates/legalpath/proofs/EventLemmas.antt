-- Laws of a step, by the events.
use Rattle.retire.specs.declared.event.Event.TheVariants.{Retire, Trap}
use Rattle.legalpath.proofs.StepLemmas as step
use Rattle.legalpath.specs.StepLaws.{LeadsToOne, FollowersStandTogether, FollowersStandAbove, FollowersKeepPrivilege}

pub leads_to_one : LeadsToOne
leads_to_one words (Retire addr itype priv) retired stays right =
    step.leads_to_one (words addr) addr itype priv stays right.0
leads_to_one words (Trap priv interrupt cause epc tval) retired stays right = cc

pub stand_together : FollowersStandTogether
stand_together words (Retire addr itype priv) follower other retired stays s t =
    step.one_place (words addr) addr itype _ _ stays s.0 t.0
stand_together words (Trap priv interrupt cause epc tval) follower other retired stays s t = cc

pub stand_above : FollowersStandAbove
stand_above words (Retire addr itype priv) follower program retired branch back stays right s =
    step.rises (words addr) addr itype priv _ (program.long addr) right.0 branch back stays s.0
stand_above words (Trap priv interrupt cause epc tval) follower program retired branch back stays right s = cc

pub keep_privilege : FollowersKeepPrivilege
keep_privilege words (Retire addr itype priv) follower retired stays s = step.keeps (words addr) priv _ stays s.1
keep_privilege words (Trap priv interrupt cause epc tval) follower retired stays s = cc
