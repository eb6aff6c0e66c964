-- Whether a message is taken, by its two rules: by lemmas on what is found, which no tactic finds.
use Rattle.std.proofs.Common.{◌∙◌, ◌++◌, Ok, subst, sym}
use Rattle.live.specs.Received.{is_kept, is_taken, is_taken_anywhere}
use Rattle.live.specs.ReceivedLeft.{most_sought, rule_of}
use Rattle.live.specs.steps.Receiving.{Says, Settles}
use Rattle.live.proofs.ReceivedSteps.{settles_on}
use Rattle.live.proofs.ReceivedTaken.{taken_anywhere, taken_astray, taken_kept}
use Rattle.live.proofs.received_taking.is_taken.Goals as goal

pub returns-in-Ok-true-clause-settles : goal.returns-in-Ok-true-clause-settles
returns-in-Ok-true-clause-settles g c = λ all came front first right reads.
    let bytes = c.args.bytes.now in
    let rule = rule_of c.args.harts all front in
    let found =
    subst
    (λ b. Settles all came front first bytes (most_sought c.args.harts) (Says (is_taken_anywhere rule) bytes c.args.ended) (Ok b) c.is_taken_anywhere.new.window
    (g.S.SentSource.left c.is_taken_anywhere.new.source)) c.in-Ok-true.field-0-test
    (c.in-Ok-true.ensures.settles all came front first right reads) in (
      λ more may. sym (taken_anywhere rule c.args.astray (bytes ++ more) (sym (found.0 more may))),
      found.1,
    )

pub returns-then-astray-clause-settles : goal.returns-then-astray-clause-settles
returns-then-astray-clause-settles g c = λ all came front first right reads.
    let bytes = c.args.bytes.now in
    let rule = rule_of c.args.harts all front in
    let found =
    subst
    (λ b. Settles all came front first bytes (most_sought c.args.harts) (Says (is_taken_anywhere rule) bytes c.args.ended) (Ok b) c.is_taken_anywhere.new.window
    (g.S.SentSource.left c.is_taken_anywhere.new.source)) c.in-Ok-false.field-0-test
    (c.in-Ok-false.ensures.settles all came front first right reads) in (
      λ more may. found.0 more may ∙ sym (taken_astray rule c.args.astray (bytes ++ more) c.if-astray.true),
      found.1,
    )

pub returns-else-astray-clause-settles : goal.returns-else-astray-clause-settles
returns-else-astray-clause-settles g c = λ all came front first right reads.
    let bytes = c.args.bytes.now in
    let rule = rule_of c.args.harts all front in
    let found =
    subst
    (λ b. Settles all came front first bytes (most_sought c.args.harts) (Says (is_taken_anywhere rule) bytes c.args.ended) (Ok b) c.is_taken_anywhere.new.window
    (g.S.SentSource.left c.is_taken_anywhere.new.source)) c.in-Ok-false.field-0-test
    (c.in-Ok-false.ensures.settles all came front first right reads) in
    settles_on all came front first found.1.read bytes (most_sought c.args.harts) bytes (most_sought c.args.harts) found.1.more
    found.1.sought (λ at less message is. (at, less, is)) (Says (is_kept rule) bytes c.args.ended) (Says (is_taken rule c.args.astray) bytes c.args.ended)
    c.is_kept.result c.is_kept.new.window (g.S.SentSource.left c.is_kept.new.source)
    (λ is says more may. says more may
    ∙ sym (taken_kept rule c.args.astray (bytes ++ more) c.if-astray.false (sym (found.0 more may))))
    (c.is_kept.ensures.settles all came front found.1.read right found.1.reads)
