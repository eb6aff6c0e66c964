-- The clause holds for any events before, which the search does not instantiate.
use Rattle.std.proofs.Common.{arith}
use Rattle.stimulus.proofs.WalkLemmas.{walks_on}
use Rattle.stimulus.proofs.hart.Hart.next_event.Goals as goal

pub returns-then-self-clause-walks : goal.returns-then-self-clause-walks
returns-then-self-clause-walks c = λ start seen has. (has, omega (arith, has.counted, c.if-self.true))

pub returns-clause-walks : goal.returns-clause-walks
returns-clause-walks c = λ start seen has.
    walks_on c.args.program.now start seen c.args.self.now c.step.result c.step.new.self has
    c.step.ensures.event c.step.ensures.numbers (omega (arith, c.if-self.false))
