-- How RECEIVED goes on, by what is seen of the next message: by lemmas on what is held, which no tactic finds.
use Rattle.std.proofs.Common.{◌∙◌, ◌-◌, drop, length, sym, take}
use Rattle.frames.specs.GuidedTaken.{ends_or_begins}
use Rattle.live.specs.Received.{are_next}
use Rattle.live.specs.ReceivedLeft.{rule_of}
use Rattle.live.specs.steps.Receiving.{Says}
use Rattle.live.proofs.ReceivedBytes.{begins_of, says_rest}
use Rattle.live.proofs.ReceivedSteps.{settles_said}
use Rattle.live.proofs.ReceivedTaken.{next_in_view, next_out}
use Rattle.live.proofs.received_taking.are_next.Goals as goal

pub returns-then-is_in_view-clause-settles : goal.returns-then-is_in_view-clause-settles
returns-then-is_in_view-clause-settles g c = λ all came front first right reads.
    let bytes = c.args.bytes.now in
    let rule = rule_of c.args.harts all front in
    let size = c.in-Ok-Some.size in
    let begins = begins_of bytes c.in-Ok-Some.field-0 size c.in-Ok-Some.field-0-is c.in-Ok-Some.ensures.held in
    let seen = c.in-Ok.ensures.settles all came front first right reads in (
      λ more may. sym (next_in_view rule bytes more size c.in-Ok.seen begins seen.0
          (sym c.is_in_view.ensures ∙ c.if-is_in_view.true)),
      seen.1,
    )

pub returns-else-is_in_view-clause-settles : goal.returns-else-is_in_view-clause-settles
returns-else-is_in_view-clause-settles g c = λ all came front first right reads.
    let bytes = c.args.bytes.now in
    let rule = rule_of c.args.harts all front in
    let size = c.in-Ok-Some.size in
    let rest = take (length bytes - size) (drop size bytes) in
    let begins = begins_of bytes c.in-Ok-Some.field-0 size c.in-Ok-Some.field-0-is c.in-Ok-Some.ensures.held in
    let seen = c.in-Ok.ensures.settles all came front first right reads in
    settles_said all came front first bytes 1 (Says ends_or_begins rest c.args.ended) (Says (are_next rule) bytes c.args.ended)
    c.ends_or_begins.result c.see_at.new.window (g.S.SentSource.left c.see_at.new.source) c.args.ended (length rest) 29
    (λ is says more may. says_rest ends_or_begins bytes size c.args.ended is says more may
    ∙ sym (next_out rule bytes more size c.in-Ok.seen begins seen.0 (sym c.is_in_view.ensures ∙ c.if-is_in_view.false)))
    c.ends_or_begins.ensures.says c.ends_or_begins.ensures.few seen.1
