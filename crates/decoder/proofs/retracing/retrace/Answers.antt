-- No search finds by which lemma a step retraces.
use Rattle.std.proofs.Common.{false, drop}
use Rattle.rvclass.specs.Fetch.{words_of}
use Rattle.decoder.proofs.Retraces.{retraces_to, retraces_any, retraces_nothing, retraces_nowhere}
use Rattle.decoder.specs.steps.Walks.{goal_end}
use Rattle.decoder.proofs.retracing.retrace.Goals as goal

pub returns-in-One : goal.returns-in-One
returns-in-One c =
    retraces_to (words_of c.args.program.now) c.args.course.now.outcomes _ _ c.args.here.now _ _
    (goal_end c.args.course.now.goal) c.in-One.addr c.requires.here c.in-One.is c.reach.ensures

pub returns-in-Target : goal.returns-in-Target
returns-in-Target c =
    retraces_any (words_of c.args.program.now) c.args.course.now.outcomes _ _ c.args.here.now _ _
    c.args.course.now.goal c.in-Target.addr c.requires.here c.in-Any.is c.in-Target.is c.reach-in-Target.ensures

pub returns-in_default : goal.returns-in_default
returns-in_default c =
    retraces_nothing (words_of c.args.program.now) c.args.course.now.outcomes c.args.here.now c.args.used.now
    c.args.here.now (drop c.args.used.now c.args.course.now.outcomes) false c.args.course.now.goal c.requires.here
    c.in-Any.is c.in_default.not-Target

pub returns-in-NoneInside : goal.returns-in-NoneInside
returns-in-NoneInside c =
    retraces_nowhere (words_of c.args.program.now) c.args.course.now.outcomes c.args.here.now c.args.used.now
    c.args.here.now (drop c.args.used.now c.args.course.now.outcomes) false (goal_end c.args.course.now.goal)
    c.requires.here c.in-NoneInside.is
