-- One message more is read: by a lemma on what is read, which no tactic finds.
use Rattle.std.proofs.Common.{◌∙◌, Ok, subst, sym, take}
use Rattle.live.specs.Following.{Reads}
use Rattle.live.specs.steps.Looking.{IsNextSent}
use Rattle.live.proofs.Following.{never_refused, reads_more}
use Rattle.live.proofs.looking.read_one.Goals as goal

pub returns-in-Ok : goal.returns-in-Ok
returns-in-Ok g c = λ all read came front right reads place.
    let after = g.S.SentSource.left c.next_sent.new.source in
    let next =
    subst (λ o. IsNextSent all read c.args.window.now (Ok o) after) c.in-Ok-Some.field-0-is
    (c.in-Ok-Some.ensures all read came front right reads) in
    reads_more all right read came front c.args.window.now (g.S.SentSource.left c.args.source.now) reads
    c.in-Ok-Some.message after c.read.new.self next.0 next.1
    (c.in-Ok.ensures.read (take read all.sent) came front reads.holds) c.read.ensures.window c.read.ensures.harts c.read.ensures.by

pub returns-in-Err-read : goal.returns-in-Err-read
returns-in-Err-read g c = λ all read came front right reads place.
    let after = g.S.SentSource.left c.next_sent.new.source in
    let next =
    subst (λ o. IsNextSent all read c.args.window.now (Ok o) after) c.in-Ok-Some.field-0-is
    (c.in-Ok-Some.ensures all read came front right reads) in
    absurd (never_refused all right read came front c.args.window.now (g.S.SentSource.left c.args.source.now) reads
    c.in-Ok-Some.message c.in-Err-read.why place next.2
    (c.in-Err-read.ensures.refused (take read all.sent) came front reads.holds))

pub returns-in-Ok-None : goal.returns-in-Ok-None
returns-in-Ok-None g c = λ all read came front right reads place.
    let next =
    subst (λ o. IsNextSent all read c.args.window.now (Ok o) (g.S.SentSource.left c.next_sent.new.source)) c.in-Ok-None.field-0-is
    (c.in-Ok-None.ensures all read came front right reads) in
    (subst (λ l. Reads all read came front c.args.window.now l) (reads.remains ∙ sym next.1) reads, next.0, next.2)

pub returns-in-Err : goal.returns-in-Err
returns-in-Err g c = λ all read came front right reads place.
    let fails = c.in-Err.ensures all read came front right reads in
    (reads.holds, reads.harts, reads.window, reads.by, fails.0, fails.1)
