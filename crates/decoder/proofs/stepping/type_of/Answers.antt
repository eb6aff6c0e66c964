-- What is left of a list is an induction over the list.
use Rattle.std.proofs.Common.{true, false}
use Rattle.decoder.proofs.OutcomesLeft.{type_on-some, type_on-none}
use Rattle.decoder.proofs.stepping.type_of.Goals as goal

pub returns-in-Some-true-clause-returned : goal.returns-in-Some-true-clause-returned
returns-in-Some-true-clause-returned c = type_on-some c.args.class c.in-Branch.field-0 c.args.course.now.outcomes
    c.args.used.now c.in-Some-true.field-0 true c.in-Branch.is c.in-Some-true.ensures c.in-Some-true.field-0-test

pub returns-in-Some-false-clause-returned : goal.returns-in-Some-false-clause-returned
returns-in-Some-false-clause-returned c = type_on-some c.args.class c.in-Branch.field-0 c.args.course.now.outcomes
    c.args.used.now c.in-Some-false.field-0 false c.in-Branch.is c.in-Some-false.ensures c.in-Some-false.field-0-test

pub returns-in-None-clause-returned : goal.returns-in-None-clause-returned
returns-in-None-clause-returned c = type_on-none c.args.class c.in-Branch.field-0 c.args.course.now.outcomes
    c.args.used.now c.in-Branch.is c.in-None.ensures
