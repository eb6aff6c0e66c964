-- What judging the events in turn answers is a law by recursion over them.
use Rattle.std.proofs.Common.{Ok, Err, subst, sym}
use Rattle.rvclass.specs.Fetch.{words_of}
use Rattle.legalpath.specs.Passed.{HasPassed}
use Rattle.legalpath.proofs.CheckLemmas.{names_first_fault, ok_where_legal, passes_more}
use Rattle.legalpath.proofs.path_check.PathCheck.pass.Goals as goal

pub returns-in-Ok-clause-legal : goal.returns-in-Ok-clause-legal
returns-in-Ok-clause-legal c = λ seen has.
    ok_where_legal (words_of c.args.program.now) seen c.args.events.now _
    (subst (HasPassed (words_of c.args.program.now) seen) (sym c.self.view_is) has) (Ok c.in-Ok.left) c.in-Ok.ensures.value

pub returns-in-Ok-clause-passed : goal.returns-in-Ok-clause-passed
returns-in-Ok-clause-passed c = λ seen has.
    passes_more (words_of c.args.program.now) seen c.args.events.now _
    (subst (HasPassed (words_of c.args.program.now) seen) (sym c.self.view_is) has) (Ok c.in-Ok.left) c.in-Ok.ensures.value

pub returns-in-Err-clause-legal : goal.returns-in-Err-clause-legal
returns-in-Err-clause-legal c = λ seen has.
    ok_where_legal (words_of c.args.program.now) seen c.args.events.now _
    (subst (HasPassed (words_of c.args.program.now) seen) (sym c.self.view_is) has) (Err c.in-Err.fault)
    c.in-Err.ensures.value

pub returns-in-Err-clause-first : goal.returns-in-Err-clause-first
returns-in-Err-clause-first c = λ seen has.
    names_first_fault (words_of c.args.program.now) seen c.args.events.now _
    (subst (HasPassed (words_of c.args.program.now) seen) (sym c.self.view_is) has) (Err c.in-Err.fault)
    c.in-Err.ensures.value
