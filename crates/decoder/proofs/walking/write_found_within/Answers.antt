-- Each step of the loop is a lemma about the walk that is left, which no search names.
use Rattle.std.proofs.Common.{[], ◌∙◌, append-nil, arith, sym}
use Rattle.rvclass.specs.Fetch.{words_of}
use Rattle.decoder.proofs.BothWritten.{cut_back}
use Rattle.decoder.proofs.WritesAsFound.{writing_stops, writing_ends, writing_returns, writing_goes}
use Rattle.decoder.specs.steps.Walks.{goal_end}
use Rattle.decoder.proofs.walking.write_found_within.Goals as goal

pub returns-in-Ends-clause-summary : goal.returns-in-Ends-clause-summary
returns-in-Ends-clause-summary g c =
    writing_returns (words_of c.args.program.now) (goal_end c.args.course.now.goal) _ _ c.args.limit _ c.loop-done.done
    _ _ _ c.loop-done.invariant.3 (omega (arith, c.loop-done-test.true, c.min-done-end.ensures)) _ c.event-last.result
    c.in-Ends.ensures.step c.event-last.ensures

pub returns-in-Ends-clause-adds : goal.returns-in-Ends-clause-adds
returns-in-Ends-clause-adds g c = (
  writing_ends (words_of c.args.program.now) (goal_end c.args.course.now.goal) _ _ c.args.limit _ c.loop-done.done _ _ _
      c.loop-done.invariant.3 (omega (arith, c.loop-done-test.true, c.min-done-end.ensures)) _ c.event-last.result _
      c.in-Ends.ensures.step c.event-last.ensures c.push_reserved-in-Ends.ensures.items,
  cc,
)

pub returns-in-Fails-clause-summary : goal.returns-in-Fails-clause-summary
returns-in-Fails-clause-summary g c =
    writing_stops (words_of c.args.program.now) (goal_end c.args.course.now.goal) _ _ c.args.limit _ c.loop-done.done _
    _ _ c.loop-done.invariant.3 (omega (arith, c.loop-done-test.true, c.min-done-end.ensures)) c.in-Fails.ensures.step

pub loop-done-preserved : goal.loop-done-preserved
loop-done-preserved g c = (
  c.push_reserved.ensures.capacity ∙ c.loop-done.invariant.0,
  omega (arith, c.push_reserved.ensures.len, c.loop-done.invariant.1),
  c.in-Goes.ensures.carries,
  writing_goes (words_of c.args.program.now) (goal_end c.args.course.now.goal) _ _ c.args.limit _ c.loop-done.done _ _ _
      c.loop-done.invariant.3 (omega (arith, c.loop-done-test.true, c.min-done-end.ensures)) _ c.event.result _ _
      c.in-Goes.ensures.step c.event.ensures c.push_reserved.ensures.items,
)

pub returns-clause-grown : goal.returns-clause-grown
returns-clause-grown g c =
    let log = c.args.log.now in
    let made = c.loop-done.invariant.3 in
    let back = cut_back log.items c.loop-done.log.items made.made c.len-count.result
    (omega (arith, c.len-count.ensures, log.ok.0)) made.joined in (
      ([], c.truncate.ensures.items ∙ back ∙ sym (append-nil log.items)),
      c.truncate.ensures.capacity ∙ c.loop-done.invariant.0,
    )
