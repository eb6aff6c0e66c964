-- No hart so far is looked for: by lemmas on lists, which no tactic finds.
use Rattle.std.proofs.Common.{◌∙◌, sym, arith}
use Rattle.bench.specs.steps.Stopping.{IsSought}
use Rattle.bench.proofs.FirstHarts.{none_sought, not_sought_here, sought_here}
use borrow.Author.Count.{below_more, below_none}
use Rattle.bench.proofs.stopping.first.Goals as goal

pub loop-hart-init : goal.loop-hart-init
loop-hart-init g c = below_none (λ h. ¬ IsSought c.args.sought c.args.harts.now c.args.handed_back.now h)

pub loop-hart-preserved : goal.loop-hart-preserved
loop-hart-preserved g c =
    let within = c.loop-hart-test.true in
    let same = c.requires.0 in
    below_more (λ h. ¬ IsSought c.args.sought c.args.harts.now c.args.handed_back.now h) c.loop-hart.hart
    c.loop-hart.invariant
    (not_sought_here c.args.harts.now c.args.handed_back.now c.loop-hart.hart c.index-harts-hart.result _ within
    (omega (arith, within, same)) c.index-harts-hart.is c.args.sought (sym c.is_sought.ensures ∙ c.if-is_sought.false))

pub returns-then-is_sought-clause-some : goal.returns-then-is_sought-clause-some
returns-then-is_sought-clause-some g c =
    let within = c.loop-hart-test.true in
    let same = c.requires.0 in (
      sought_here c.args.harts.now c.args.handed_back.now c.loop-hart.hart c.index-harts-hart.result _ within
          (omega (arith, within, same)) c.index-harts-hart.is c.args.sought (sym c.is_sought.ensures ∙ c.if-is_sought.true),
      c.loop-hart.invariant,
    )

pub returns-clause-none : goal.returns-clause-none
returns-clause-none g c =
    none_sought c.args.harts.now c.args.handed_back.now c.args.sought c.loop-hart.hart c.loop-hart-test.false
    c.loop-hart.invariant
