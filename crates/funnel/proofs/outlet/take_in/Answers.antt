-- The prover needs the lemmas that taking in and comparing keep the rule, and what the comparison says.
use Rattle.std.proofs.Common.{◌∙◌}
use Rattle.funnel.proofs.OrderLemmas.{ends_whole}
use Rattle.funnel.proofs.PassSteps.{may_take_in, may_compare, taken_in_is, compared, outlet_is}
use Rattle.funnel.proofs.outlet.take_in.Goals as goal

pub absorb-requires-clause-rule : goal.absorb-requires-clause-rule
absorb-requires-clause-rule g c = may_take_in _ _ _ _ _ _ c.requires.outlet c.requires.port

pub learn_as-requires-clause-rule : goal.learn_as-requires-clause-rule
learn_as-requires-clause-rule g c =
    let settled = c.absorb.ensures.rule ∙ taken_in_is _ _ _ _ c.requires.outlet c.requires.port in
    may_compare _ _ _ (outlet_is _ _ _ _ _ settled).0

pub returns-clause-outlet : goal.returns-clause-outlet
returns-clause-outlet g c =
    let settled = c.absorb.ensures.rule ∙ taken_in_is _ _ _ _ c.requires.outlet c.requires.port in
    outlet_is _ _ _ _ _ (c.learn_as.ensures.channel.2 ∙ settled)

pub returns-clause-hart : goal.returns-clause-hart
returns-clause-hart g c =
    let settled = c.absorb.ensures.rule ∙ taken_in_is _ _ _ _ c.requires.outlet c.requires.port in
    (compared _ _ _ _ _ _ settled c.learn_as.ensures.rule.1).2

pub returns-clause-beginning : goal.returns-clause-beginning
returns-clause-beginning g c =
    let settled = c.absorb.ensures.rule ∙ taken_in_is _ _ _ _ c.requires.outlet c.requires.port in
    (_, (compared _ _ _ _ _ _ settled c.learn_as.ensures.rule.1).0)

pub returns-clause-whole : goal.returns-clause-whole
returns-clause-whole g c ends =
    let settled = c.absorb.ensures.rule ∙ taken_in_is _ _ _ _ c.requires.outlet c.requires.port in
    let k = compared _ _ _ _ _ _ settled c.learn_as.ensures.rule.1 in
    ends_whole _ _ _ _ k.0 k.1 ends
