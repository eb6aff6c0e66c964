-- The clauses hold for any packets before, which the search does not instantiate.
use Rattle.rvclass.specs.Fetch.{words_of}
use Rattle.stimulus.proofs.TraceLemmas.{closed_on}
use Rattle.stimulus.proofs.sender.Tracer.close.Goals as goal

pub returns-clause-given : goal.returns-clause-given
returns-clause-given c = λ plan number stand has.
    let words = words_of c.args.program.now in
    let kept = c.state.ensures.stands words plan.period plan.mode has.seen has.stands in
    closed_on words plan number stand c.args.self.now has c.requires c.finish.result.items
    (c.finish.ensures.packets plan.period plan.mode has.seen (c.from_state.ensures.stands words plan.period plan.mode has.seen kept))

pub returns-clause-profile : goal.returns-clause-profile
returns-clause-profile c = λ plan number stand has.
    let words = words_of c.args.program.now in
    let kept = c.state.ensures.stands words plan.period plan.mode has.seen has.stands in
    c.finish.ensures.profile plan.period plan.mode has.seen (c.from_state.ensures.stands words plan.period plan.mode has.seen kept)
    has.walked.legal
