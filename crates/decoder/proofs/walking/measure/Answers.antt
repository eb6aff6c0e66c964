-- What is said of the steps is said of walks by inductions over them.
use Rattle.std.proofs.Common.{◌≤◌, length, ap, subst, ◌∙◌}
use Rattle.rvclass.specs.Fetch.{words_of}
use Rattle.decoder.proofs.PassesFindWalks.{same_walk, measure_finds, measure_short, measure_none}
use Rattle.decoder.specs.steps.WalkSteps.{summary}
use Rattle.decoder.specs.steps.Walks.{event_of, goal_end}
use Rattle.decoder.proofs.walking.measure.Goals as goal

pub returns-clause-found : goal.returns-clause-found
returns-clause-found c =
    let summed = c.measure_within.ensures.summary ∙ ap (summary (event_of c.args.from))
    (same_walk (words_of c.args.paths.program.now) (event_of c.args.from) _ _ _ _ _ _ c.args.paths.bound.value
    c.new.ensures.outcomes c.new.ensures.goal) in
    measure_finds (words_of c.args.paths.program.now) c.args.paths.bound.words c.args.from c.requires c.args.outcomes.now
    (goal_end c.args.goal) _ _ summed

pub returns-clause-short : goal.returns-clause-short
returns-clause-short c =
    let few = subst (λ l. length l ≤ 31) c.new.ensures.outcomes
    (subst (λ n. n ≤ 31) c.new.ensures.course.0 c.new.ensures.course.1) in
    measure_short (words_of c.args.paths.program.now) c.args.paths.bound.words c.args.from c.requires c.args.outcomes.now
    (goal_end c.args.goal) _ _ c.args.paths.bound.within few _ (returns-clause-found c)

pub returns-clause-none : goal.returns-clause-none
returns-clause-none c =
    let few = subst (λ l. length l ≤ 31) c.new.ensures.outcomes
    (subst (λ n. n ≤ 31) c.new.ensures.course.0 c.new.ensures.course.1) in
    let summed = c.measure_within.ensures.summary ∙ ap (summary (event_of c.args.from))
    (same_walk (words_of c.args.paths.program.now) (event_of c.args.from) _ _ _ _ _ _ c.args.paths.bound.value
    c.new.ensures.outcomes c.new.ensures.goal) in
    measure_none (words_of c.args.paths.program.now) c.args.paths.bound.words c.args.from c.requires c.args.outcomes.now
    (goal_end c.args.goal) _ _ c.args.paths.bound.within few _ summed
