-- A message is kept by what follows it: by lemmas on what is held, which no tactic finds.
use Rattle.std.proofs.Common.{◌∙◌, ◌-◌, ◌++◌, arith, drop, length, subst, sym, take}
use Rattle.frames.proofs.FrameLemmas.{complete}
use Rattle.frames.specs.Frame.{message_size}
use Rattle.live.specs.Received.{are_next, is_kept}
use Rattle.live.specs.ReceivedLeft.{most_sought, rule_of}
use Rattle.live.specs.steps.Receiving.{Says}
use Rattle.live.proofs.ReceivedBytes.{begins_of, its, none_begins, says_rest}
use Rattle.live.proofs.ReceivedSteps.{among_rest, follows_none, held_back, settles_among}
use Rattle.live.proofs.ReceivedTaken.{kept_held, kept_none}
use Rattle.live.proofs.received_taking.is_kept.Goals as goal

pub returns-in-Ok-None-clause-settles : goal.returns-in-Ok-None-clause-settles
returns-in-Ok-None-clause-settles g c = λ all came front first right reads.
    let bytes = c.args.bytes.now in
    let none =
    subst (λ o. Says message_size bytes c.args.ended o) c.in-Ok-None.field-0-is c.in-Ok-None.ensures.size in (
      λ more may. sym (kept_none (rule_of c.args.harts all front) (bytes ++ more) (none_begins (bytes ++ more) (none more may))),
      follows_none all came front first bytes (most_sought c.args.harts) c.args.window.now
          (g.S.SentSource.left c.args.source.now) reads,
    )

pub returns-in-Err-clause-settles : goal.returns-in-Err-clause-settles
returns-in-Err-clause-settles g c = λ all came front first right reads.
    held_back all came front first c.args.bytes.now (most_sought c.args.harts)
    (Says (is_kept (rule_of c.args.harts all front)) c.args.bytes.now c.args.ended) c.args.window.now
    (g.S.SentSource.left c.args.source.now) c.in-Err.why c.in-Err.ensures.few.0
    (follows_none all came front first c.args.bytes.now (most_sought c.args.harts) c.args.window.now
    (g.S.SentSource.left c.args.source.now) reads)

pub returns-in-Ok-Some-clause-settles : goal.returns-in-Ok-Some-clause-settles
returns-in-Ok-Some-clause-settles g c = λ all came front first right reads.
    let bytes = c.args.bytes.now in
    let rule = rule_of c.args.harts all front in
    let size = c.in-Ok-Some.size in
    let begins = begins_of bytes c.in-Ok-Some.field-0 size c.in-Ok-Some.field-0-is c.in-Ok-Some.ensures.held in
    let most = (complete bytes (its bytes size begins).0).few in
    let same = (its bytes size begins).1 in
    settles_among all came front first (take (length bytes - size) (drop size bytes)) 1 bytes (most_sought c.args.harts)
    (among_rest bytes size 1 (most_sought c.args.harts) (omega (arith, most, same)))
    (Says (are_next rule) (take (length bytes - size) (drop size bytes)) c.args.ended) (Says (is_kept rule) bytes c.args.ended) c.are_next.result c.are_next.new.window
    (g.S.SentSource.left c.are_next.new.source)
    (λ is says more may. says_rest (are_next rule) bytes size c.args.ended is says more may
    ∙ sym (kept_held rule bytes more size begins)) (c.are_next.ensures.settles all came front first right reads)
