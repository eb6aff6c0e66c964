-- The search does not rewrite under the test by which an event is quiet.
use Rattle.std.proofs.Common.{◌≡◌, [], sym, ap, ◌∙◌}
use Rattle.rvclass.specs.Fetch.{words_of}
use Rattle.encoder.specs.steps.Stepping.{gives_nothing, hold, is_quiet, packets_for_rule, reported_for_rule}
use Rattle.encoder.proofs.EventsTaken.{after_quiet, given_quiet, after_loud, given_loud}
use Rattle.encoder.proofs.encoder.Encoder.step.Goals.{After-is_quiet}
use Rattle.encoder.proofs.encoder.Encoder.step.Goals as goal

-- What the code's test says.
test : (c : After-is_quiet)
    → is_quiet (words_of c.args.program.now) c.args.self.now c.args.self.now.held c.args.event.now
    c.due_behind-due.result
    ≡ c.is_quiet.result
test c = ap (λ rule. gives_nothing rule c.args.self.now.pending) (sym c.rule_of_held-rule.ensures)
    ∙ sym c.is_quiet.ensures

pub returns-then-is_quiet-clause-after : goal.returns-then-is_quiet-clause-after
returns-then-is_quiet-clause-after c =
    let call = (goal.at.returns-then-is_quiet-clause-after c).After-is_quiet in
    c.hold.ensures.after ∙ after_quiet (words_of c.args.program.now) c.args.self.now c.args.event.now
    c.due_behind-due.result c.due_behind-due.ensures (test call ∙ c.if-is_quiet.true)

pub returns-then-is_quiet-clause-given : goal.returns-then-is_quiet-clause-given
returns-then-is_quiet-clause-given c =
    let call = (goal.at.returns-then-is_quiet-clause-given c).After-is_quiet in
    given_quiet (words_of c.args.program.now) c.args.self.now c.args.event.now c.due_behind-due.result
    c.due_behind-due.ensures (test call ∙ c.if-is_quiet.true)

pub returns-clause-after : goal.returns-clause-after
returns-clause-after c =
    let call = (goal.at.returns-clause-after c).After-is_quiet in
    let self = c.args.self.now in
    let event = c.args.event.now in
    let due = c.due_behind-due.result in
    c.report.ensures.after
    ∙ ap (λ rule. hold self [] (reported_for_rule self self.held rule event due) event due) c.rule_of_held-rule.ensures
    ∙ after_loud (words_of c.args.program.now) self event due c.due_behind-due.ensures
    (test call ∙ c.if-is_quiet.false)

pub returns-clause-given : goal.returns-clause-given
returns-clause-given c =
    let call = (goal.at.returns-clause-given c).After-is_quiet in
    let self = c.args.self.now in
    let event = c.args.event.now in
    let due = c.due_behind-due.result in
    c.report.ensures.given
    ∙ ap (λ rule. packets_for_rule self self.held rule event due) c.rule_of_held-rule.ensures
    ∙ given_loud (words_of c.args.program.now) self event due c.due_behind-due.ensures
    (test call ∙ c.if-is_quiet.false)
