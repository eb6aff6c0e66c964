-- That none is treated yet, that one more is, and that all are, is found by lemmas on messages.
use Rattle.std.proofs.Common.{rules, ◌<◌, ◌^◌, length, replicate, ap, ◌∙◌}
use Rattle.salvaging.proofs.TreatedAll.{few_counted, treated_end, treated_next, treated_start}
use Rattle.salvaging.proofs.treating.treat_each.Goals as goal

pub loop-message-init : goal.loop-message-init
loop-message-init g c =
    let counts = c.in_ok-counts.ensures.items_if_clones_equal (λ y same. same)
    ∙ ap (λ n. replicate n 0) c.from.ensures in (
      treated_start c.args.harts c.args.messages.now c.args.sorted.now c.in_ok-counts.counts.items _ counts
          (search rules),
      search rules,
    )

pub treat_next-requires-clause-few : goal.treat_next-requires-clause-few
treat_next-requires-clause-few g c =
    let small : length c.args.messages.now < 2 ^ 64 = search rules in
    few_counted c.args.harts c.args.messages.now c.args.sorted.now c.loop-message.message-index
    c.loop-message.counts.items c.loop-message.treated.items c.loop-message.invariant.0 c.message-item.result
    c.loop-message-test.true c.message-item.is small

pub loop-message-preserved : goal.loop-message-preserved
loop-message-preserved g c = (
  treated_next c.args.harts c.args.messages.now c.args.sorted.now c.loop-message.message-index
      c.loop-message.counts.items c.loop-message.treated.items c.loop-message.invariant.0 c.message-item.result
      c.loop-message-test.true c.message-item.is c.treat_next.new.counts.items c.treat_next.result _ c.treat_next.ensures
      c.push_reserved.ensures.items,
  search rules,
)

pub returns : goal.returns
returns g c = λ words mode each.
    treated_end c.args.harts c.args.messages.now c.args.sorted.now words mode _ c.loop-message.counts.items
    c.loop-message.treated.items c.loop-message.invariant.0 (search rules) c.requires each
