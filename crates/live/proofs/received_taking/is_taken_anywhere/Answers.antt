-- What is taken anywhere, by what is held: by lemmas, which no tactic finds.
use Rattle.std.proofs.Common.{◌≡◌, ◌∙◌, ◌++◌, ◌||◌, ℕ, List, ap, arith, subst, sym}
use Rattle.frames.specs.Frame.{message_in, message_size}
use Rattle.live.specs.Received.{begins_row, is_taken_anywhere}
use Rattle.live.specs.ReceivedLeft.{most_sought, rule_of}
use Rattle.live.specs.steps.Receiving.{Says, seen_first}
use Rattle.live.proofs.ReceivedBytes.{begins_held, none_begins}
use Rattle.live.proofs.ReceivedSteps.{AreAmong, among_more, follows_among, follows_none, held_back, pauses_among, settles_on, sure_result}
use Rattle.live.proofs.ReceivedTaken.{anywhere_held, anywhere_none}
use Rattle.live.proofs.received_taking.is_taken_anywhere.Goals as goal

-- The first message begins among the bytes that are looked at.
first_place : (bytes : List ℕ) (harts : ℕ) → AreAmong bytes 1 bytes (most_sought harts)
first_place bytes harts = among_more bytes 1 (most_sought harts) (omega arith)

pub returns-in-Ok-None-clause-settles : goal.returns-in-Ok-None-clause-settles
returns-in-Ok-None-clause-settles g c = λ all came front first right reads.
    let bytes = c.args.bytes.now in
    let none =
    subst (λ o. Says message_size bytes c.args.ended o) c.in-Ok-None.field-0-is c.in-Ok-None.ensures.size in (
      λ more may. sym (anywhere_none (rule_of c.args.harts all front) (bytes ++ more) (none_begins (bytes ++ more) (none more may))),
      follows_none all came front first bytes (most_sought c.args.harts) c.args.window.now
          (g.S.SentSource.left c.args.source.now) reads,
    )

pub returns-in-Err-clause-settles : goal.returns-in-Err-clause-settles
returns-in-Err-clause-settles g c = λ all came front first right reads.
    held_back all came front first c.args.bytes.now (most_sought c.args.harts)
    (Says (is_taken_anywhere (rule_of c.args.harts all front)) c.args.bytes.now c.args.ended) c.args.window.now
    (g.S.SentSource.left c.args.source.now) c.in-Err.why c.in-Err.ensures.few.0
    (follows_none all came front first c.args.bytes.now (most_sought c.args.harts) c.args.window.now
    (g.S.SentSource.left c.args.source.now) reads)

pub returns-then-is_true-clause-settles : goal.returns-then-is_true-clause-settles
returns-then-is_true-clause-settles g c = λ all came front first right reads.
    let bytes = c.args.bytes.now in
    let rule = rule_of c.args.harts all front in
    let seen = c.in-Ok.ensures.settles all came front first right reads in
    let whole = begins_held bytes c.in-Ok-Some.field-0 c.in-Ok-Some.field-0-is c.in-Ok-Some.ensures.held in (
      λ more may. sym (anywhere_held rule bytes more c.in-Ok.seen whole seen.0
          ∙ ap (λ b. b || begins_row rule (bytes ++ more)) (sym c.is_true.ensures ∙ c.if-is_true.true)),
      follows_among all came front first bytes 1 bytes (most_sought c.args.harts) (first_place bytes c.args.harts)
          c.see_at.new.window (g.S.SentSource.left c.see_at.new.source) seen.1,
    )

pub returns-then-is_true-clause-sure : goal.returns-then-is_true-clause-sure
returns-then-is_true-clause-sure g c =
    begins_held c.args.bytes.now c.in-Ok-Some.field-0 c.in-Ok-Some.field-0-is c.in-Ok-Some.ensures.held

pub returns-else-is_true-clause-settles : goal.returns-else-is_true-clause-settles
returns-else-is_true-clause-settles g c = λ all came front first right reads.
    let bytes = c.args.bytes.now in
    let rule = rule_of c.args.harts all front in
    let seen = c.in-Ok.ensures.settles all came front first right reads in
    let whole = begins_held bytes c.in-Ok-Some.field-0 c.in-Ok-Some.field-0-is c.in-Ok-Some.ensures.held in
    let begun =
    follows_among all came front first bytes 1 bytes (most_sought c.args.harts) (first_place bytes c.args.harts)
    c.see_at.new.window (g.S.SentSource.left c.see_at.new.source) seen.1 in
    settles_on all came front first begun.read bytes (most_sought c.args.harts) bytes (most_sought c.args.harts) begun.more
    begun.sought (λ at less message is. (at, less, is)) (Says (begins_row rule) bytes c.args.ended)
    (Says (is_taken_anywhere rule) bytes c.args.ended)
    c.begins_row.result c.begins_row.new.window (g.S.SentSource.left c.begins_row.new.source)
    (λ is says more may. says more may
    ∙ sym (anywhere_held rule bytes more c.in-Ok.seen whole seen.0
    ∙ ap (λ b. b || begins_row rule (bytes ++ more)) (sym c.is_true.ensures ∙ c.if-is_true.false)))
    (c.begins_row.ensures.settles all came front begun.read right begun.reads)

pub returns-else-is_true-clause-sure : goal.returns-else-is_true-clause-sure
returns-else-is_true-clause-sure g c =
    sure_result c.args.bytes.now c.args.ended c.begins_row.result
    (begins_held c.args.bytes.now c.in-Ok-Some.field-0 c.in-Ok-Some.field-0-is c.in-Ok-Some.ensures.held)

pub returns-in-Err-see_at-clause-settles : goal.returns-in-Err-see_at-clause-settles
returns-in-Err-see_at-clause-settles g c = λ all came front first right reads.
    let rule = rule_of c.args.harts all front in
    pauses_among all came front first c.args.bytes.now 1 c.args.bytes.now (most_sought c.args.harts)
    (first_place c.args.bytes.now c.args.harts) (λ seen. seen ≡ seen_first rule.sees (message_in c.args.bytes.now))
    (Says (is_taken_anywhere rule) c.args.bytes.now c.args.ended) c.in-Err-see_at.why c.see_at.new.window
    (g.S.SentSource.left c.see_at.new.source) (c.in-Err-see_at.ensures.settles all came front first right reads)
