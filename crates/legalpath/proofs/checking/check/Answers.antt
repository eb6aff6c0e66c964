-- What judging the events in turn answers is a law by recursion over the log.
use Rattle.std.proofs.Common.{◌∙◌, [], Ok, Err, ap}
use Rattle.rvclass.specs.Fetch.{words_of}
use Rattle.legalpath.specs.steps.Judging as judging
use Rattle.legalpath.proofs.CheckLemmas.{names_first_fault, none_passed, ok_where_legal}
use Rattle.legalpath.proofs.checking.check.Goals as goal

pub returns-in-Ok-clause-legal : goal.returns-in-Ok-clause-legal
returns-in-Ok-clause-legal c =
    ok_where_legal (words_of c.args.program.now) [] c.args.log.now _ (none_passed _) (Ok c.in-Ok.field-0)
    (c.in-Ok.ensures.value
    ∙ ap (λ left. judging.judge_all (words_of c.args.program.now) left 1 c.args.log.now) c.left_at_start.ensures)

pub returns-in-Err-clause-legal : goal.returns-in-Err-clause-legal
returns-in-Err-clause-legal c =
    ok_where_legal (words_of c.args.program.now) [] c.args.log.now _ (none_passed _) (Err c.in-Err.fault)
    (c.in-Err.ensures.value
    ∙ ap (λ left. judging.judge_all (words_of c.args.program.now) left 1 c.args.log.now) c.left_at_start.ensures)

pub returns-in-Err-clause-first : goal.returns-in-Err-clause-first
returns-in-Err-clause-first c =
    names_first_fault (words_of c.args.program.now) [] c.args.log.now _ (none_passed _) (Err c.in-Err.fault)
    (c.in-Err.ensures.value
    ∙ ap (λ left. judging.judge_all (words_of c.args.program.now) left 1 c.args.log.now) c.left_at_start.ensures)
