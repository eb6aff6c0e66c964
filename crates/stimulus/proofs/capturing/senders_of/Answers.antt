-- The clause holds for any program, which the search does not instantiate.
use Rattle.std.proofs.Common.{◌≡◌, ◌%◌, ◌∙◌, ap, arith, refl, subst, sym}
use Rattle.stimulus.specs.Mixed.{plan_of}
use Rattle.stimulus.specs.Walk.{first_walk}
use Rattle.stimulus.specs.declared.walk.Extent.{Extent}
use Rattle.stimulus.proofs.SendLemmas.{HaveSentNone, all_none, none_yet, none_yet_more}
use Rattle.stimulus.proofs.WalkLemmas.{even_base}
use Rattle.stimulus.proofs.capturing.senders_of.Goals as goal

pub loop-hart-init : goal.loop-hart-init
loop-hart-init g c = λ words.
    none_yet words (plan_of c.args.program.now c.args.asked.now) c.new-senders.result.items c.new-senders.ensures.items

pub new-requires-clause-even : goal.new-requires-clause-even
new-requires-clause-even g c =
    ap (λ (extent : Extent). extent.base % 2) c.of-extent.ensures.extent
    ∙ even_base c.args.program.now c.of-extent.ensures.image

pub loop-hart-preserved : goal.loop-hart-preserved
loop-hart-preserved g c = λ words.
    let asked = c.args.asked.now in
    let plan = plan_of c.args.program.now asked in
    none_yet_more words plan c.loop-hart.hart c.loop-hart.senders.items c.push.new.self.items c.new.result
    c.in_ok-push.ensures.items (c.loop-hart.invariant words)
    (c.new.ensures words plan refl refl
    (sym (ap (λ (extent : Extent). first_walk extent asked.mix asked.seed c.loop-hart.hart) c.of-extent.ensures.extent)))

pub returns-clause-senders : goal.returns-clause-senders
returns-clause-senders g c = λ words.
    let all : c.loop-hart.hart ≡ c.args.asked.now.harts = omega arith in
    let plan = plan_of c.args.program.now c.args.asked.now in
    all_none words plan c.args.asked.now.harts c.loop-hart.senders.items
    (subst (λ n. HaveSentNone words plan n c.loop-hart.senders.items) all (c.loop-hart.invariant words))
