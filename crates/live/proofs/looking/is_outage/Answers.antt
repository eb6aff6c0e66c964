-- Whether two messages are beyond: by what was found of each, which no tactic puts together.
use Rattle.std.proofs.Common.{◌∙◌, ◌&&◌, Ok, ap, cond, subst}
use Rattle.live.specs.Following.{FailsAt, WasAsked, looked_to}
use Rattle.live.specs.Live.{are_near, is_beyond, standing_now}
use Rattle.live.specs.steps.Advancing.{IsFound}
use Rattle.live.proofs.Following.{fails_either, fails_later, looked_later}
use Rattle.live.proofs.looking.is_outage.Goals as goal

pub returns-in-Ok-true-is_beyond : goal.returns-in-Ok-true-is_beyond
returns-in-Ok-true-is_beyond g c = λ all read asked state right reads was.
    let one = c.args.first.now in
    let two = c.args.second.now in
    let once = looked_to all state.front one.hart one.number asked in
    let twice = looked_to all state.front two.hart two.number once in
    let first =
    subst (λ b. IsFound all asked once state (is_beyond (standing_now all.window all.sent state one)) (Ok b)
    c.is_beyond.new.window (g.S.SentSource.left c.is_beyond.new.source)) c.in-Ok-true.field-0-test
    (c.in-Ok-true.ensures all read asked state right reads was) in
    let second =
    subst (λ b. IsFound all once twice state (is_beyond (standing_now all.window all.sent state two)) (Ok b)
    c.is_beyond-in-Ok-true.new.window (g.S.SentSource.left c.is_beyond-in-Ok-true.new.source))
    c.in-Ok-true-is_beyond.field-0-test
    (c.in-Ok-true-is_beyond.ensures all first.1.0 once state right first.1.1 first.1.2) in (
      c.is_near.ensures
          ∙ ap (λ w. are_near w one.number two.number) second.1.1.window
          ∙ (λ i. first.0 i && (second.0 i && are_near all.window one.number two.number)),
      (second.1.0, second.1.1, subst (λ b. WasAsked all (cond b twice once) second.1.0) first.0 second.1.2),
    )

pub returns-in-Ok-false-is_beyond : goal.returns-in-Ok-false-is_beyond
returns-in-Ok-false-is_beyond g c = λ all read asked state right reads was.
    let one = c.args.first.now in
    let two = c.args.second.now in
    let once = looked_to all state.front one.hart one.number asked in
    let twice = looked_to all state.front two.hart two.number once in
    let first =
    subst (λ b. IsFound all asked once state (is_beyond (standing_now all.window all.sent state one)) (Ok b)
    c.is_beyond.new.window (g.S.SentSource.left c.is_beyond.new.source)) c.in-Ok-true.field-0-test
    (c.in-Ok-true.ensures all read asked state right reads was) in
    let second =
    subst (λ b. IsFound all once twice state (is_beyond (standing_now all.window all.sent state two)) (Ok b)
    c.is_beyond-in-Ok-true.new.window (g.S.SentSource.left c.is_beyond-in-Ok-true.new.source))
    c.in-Ok-false-is_beyond.field-0-test
    (c.in-Ok-false-is_beyond.ensures all first.1.0 once state right first.1.1 first.1.2) in (
      (λ i. first.0 i && (second.0 i && are_near all.window one.number two.number)),
      (second.1.0, second.1.1, subst (λ b. WasAsked all (cond b twice once) second.1.0) first.0 second.1.2),
    )

pub returns-in-Err-is_beyond : goal.returns-in-Err-is_beyond
returns-in-Err-is_beyond g c = λ all read asked state right reads was.
    let one = c.args.first.now in
    let two = c.args.second.now in
    let once = looked_to all state.front one.hart one.number asked in
    let twice = looked_to all state.front two.hart two.number once in
    let first =
    subst (λ b. IsFound all asked once state (is_beyond (standing_now all.window all.sent state one)) (Ok b)
    c.is_beyond.new.window (g.S.SentSource.left c.is_beyond.new.source)) c.in-Ok-true.field-0-test
    (c.in-Ok-true.ensures all read asked state right reads was) in
    let why = c.in-Err-is_beyond.why in
    let left = g.S.SentSource.left c.is_beyond-in-Ok-true.new.source in
    subst (λ b. FailsAt all asked (cond b twice once) why left) first.0
    (fails_later all asked once twice why left (looked_later all state.front one.hart one.number asked)
    (c.in-Err-is_beyond.ensures all first.1.0 once state right first.1.1 first.1.2))

pub returns-in-Ok-false : goal.returns-in-Ok-false
returns-in-Ok-false g c = λ all read asked state right reads was.
    let one = c.args.first.now in
    let two = c.args.second.now in
    let once = looked_to all state.front one.hart one.number asked in
    let twice = looked_to all state.front two.hart two.number once in
    let first =
    subst (λ b. IsFound all asked once state (is_beyond (standing_now all.window all.sent state one)) (Ok b)
    c.is_beyond.new.window (g.S.SentSource.left c.is_beyond.new.source)) c.in-Ok-false.field-0-test
    (c.in-Ok-false.ensures all read asked state right reads was) in (
      (λ i. first.0 i
          && (is_beyond (standing_now all.window all.sent state two) && are_near all.window one.number two.number)),
      (first.1.0, first.1.1, subst (λ b. WasAsked all (cond b twice once) first.1.0) first.0 first.1.2),
    )

pub returns-in-Err : goal.returns-in-Err
returns-in-Err g c = λ all read asked state right reads was.
    let one = c.args.first.now in
    let two = c.args.second.now in
    let once = looked_to all state.front one.hart one.number asked in
    fails_either all asked once (looked_to all state.front two.hart two.number once)
    (is_beyond (standing_now all.window all.sent state one)) c.in-Err.why (g.S.SentSource.left c.is_beyond.new.source)
    (looked_later all state.front two.hart two.number once) (c.in-Err.ensures all read asked state right reads was)
