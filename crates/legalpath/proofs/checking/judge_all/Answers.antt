-- That numbers have 64 bits is gathered event by event, which the prover does not do by itself.
use Rattle.std.proofs.Common.{rules, ◌≤◌, All, length, subst, arith}
use Rattle.std.proofs.lemmas.Grind.{common_steps}
use Rattle.std.proofs.lemmas.List.{take_all}
use Rattle.std.proofs.lemmas.List.Elements.{All-more}
use Rattle.retire.specs.Is64Bit.{Is64Bit}
use Rattle.legalpath.proofs.checking.judge_all.Goals as goal

pub loop-i-preserved : goal.loop-i-preserved
loop-i-preserved c = (
  grind (arith, common_steps),
  search rules,
  All-more Is64Bit c.args.log.now c.loop-i.i _ c.loop-i-test.true c.loop-i.invariant.2 c.judge.ensures.numbers,
)

pub returns-clause-numbers : goal.returns-clause-numbers
returns-clause-numbers c =
    let over : length c.args.log.now ≤ c.loop-i.i = omega (arith, c.loop-i-test.false) in
    subst (All Is64Bit) (take_all c.loop-i.i c.args.log.now over) c.loop-i.invariant.2
