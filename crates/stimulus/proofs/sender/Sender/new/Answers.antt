-- The clause holds for any program, which the search does not instantiate.
use Rattle.std.proofs.Common.{[], refl, subst, sym}
use Rattle.stimulus.specs.Walked.{HasWalked}
use Rattle.stimulus.proofs.SendLemmas.{sent_none}
use Rattle.stimulus.proofs.sender.Sender.new.Goals as goal

pub returns : goal.returns
returns c = λ words plan same_period same_mode same_walk.
    let walked = subst (λ walk. HasWalked words walk [] c.within-walker.result) (sym same_walk) (c.within-walker.ensures words) in
    sent_none words plan c.args.hart c.new.result _
    (c.new.ensures words plan c.args.hart same_period same_mode walked) refl refl
