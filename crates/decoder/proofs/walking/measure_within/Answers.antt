-- Each step of the loop is a lemma about the walk that is left, which no search names.
use Rattle.std.proofs.Common.{arith, drop}
use Rattle.rvclass.specs.Fetch.{words_of}
use Rattle.decoder.proofs.AlongLines.{goes_on, line_there, measure_skips}
use Rattle.decoder.proofs.PassesByStep.{measure_stops, measure_ends, measure_goes, measure_over}
use Rattle.decoder.specs.steps.Walks.{event_of, goal_end}
use Rattle.decoder.proofs.walking.measure_within.Goals as goal

pub returns-in-Ends-clause-summary : goal.returns-in-Ends-clause-summary
returns-in-Ends-clause-summary c =
    measure_ends (words_of c.args.paths.program.now) (goal_end c.args.course.now.goal) _ _ c.args.paths.longest
    c.loop.done _ _ c.loop.invariant.2 _ c.event.result (omega (arith, c.if-done-paths.false)) c.in-Ends.ensures.step
    c.event.ensures

pub returns-in-Fails-clause-summary : goal.returns-in-Fails-clause-summary
returns-in-Fails-clause-summary c =
    measure_stops (words_of c.args.paths.program.now) (goal_end c.args.course.now.goal) _ _ c.args.paths.longest
    c.loop.done _ _ c.loop.invariant.2 (omega (arith, c.if-done-paths.false)) c.in-Fails.ensures.step

pub returns-clause-summary : goal.returns-clause-summary
returns-clause-summary c =
    let counted = c.loop.invariant.1 in
    measure_over (words_of c.args.paths.program.now) (goal_end c.args.course.now.goal) _ _ c.args.paths.longest
    c.loop.done _ _ c.loop.invariant.2 (omega (arith, counted, c.loop-test.false))

pub returns-then-done-paths-clause-summary : goal.returns-then-done-paths-clause-summary
returns-then-done-paths-clause-summary c =
    measure_over (words_of c.args.paths.program.now) (goal_end c.args.course.now.goal) _ _ c.args.paths.longest
    c.loop.done _ _ c.loop.invariant.2 (omega (arith, c.if-done-paths.true))

pub loop-preserved-in-Some : goal.loop-preserved-in-Some
loop-preserved-in-Some c =
    let words = words_of c.args.paths.program.now in
    let end = goal_end c.args.course.now.goal in
    let left = drop c.loop.used c.args.course.now.outcomes in
    let line = c.in-Some.line in
    let on = c.in-Some.ensures in
    let some = on.some in
    let counted = c.loop.invariant.1 in
    let next = goes_on words c.args.paths.bound.words end left c.loop.here _ line on in (
      next.0,
      omega (arith, some, counted),
      measure_skips words end (event_of c.args.from) c.args.course.now.outcomes c.args.paths.longest c.loop.done
          (event_of c.loop.here) left c.loop.invariant.2 line.steps (event_of (line_there c.loop.here line)) on.few
          next.1,
    )

pub loop-preserved : goal.loop-preserved
loop-preserved c =
    let counted = c.loop.invariant.1 in (
      c.in-Goes.ensures.carries,
      omega (arith, counted),
      measure_goes (words_of c.args.paths.program.now) (goal_end c.args.course.now.goal) _ _ c.args.paths.longest
          c.loop.done _ _ c.loop.invariant.2 _ _ (omega (arith, c.if-done-paths.false)) c.in-Goes.ensures.step,
    )
