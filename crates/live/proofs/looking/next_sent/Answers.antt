-- The next message of SENT is the first that is left: by a lemma on what is read, which no tactic finds.
use Rattle.std.proofs.Common.{◌≡◌, ◌∙◌, ◌++◌, [], None, Ok, ap, arith, subst, sym, take}
use Rattle.std.proofs.lemmas.List.{drop_all}
use Rattle.auditing.specs.Sent.{misplaced}
use Rattle.live.specs.Following.{IsNext, IsSourceFault, Left, StaysLeft}
use Rattle.live.proofs.Following.{at_end, left_known, next_sent, refused_next}
use Rattle.live.proofs.Reading.{placed_if}
use Rattle.live.proofs.looking.next_sent.Goals as goal

pub returns-in-Some : goal.returns-in-Some
returns-in-Some g c = λ all read came front right reads.
    let left = g.S.SentSource.left c.args.source.now in
    let message = c.in-Ok-Some.message in
    let gave =
    subst (λ o. IsNext (Ok o) left (g.S.SentSource.left c.next.new.self)) c.in-Ok-Some.field-0-is c.in-Ok-Some.ensures
    (left_known all right read came front c.args.window.now left reads) in (
      refused_next all right read came front c.args.window.now left reads message (g.S.SentSource.left c.next.new.self) gave
          c.in-Some.why (sym c.refusal.ensures ∙ c.in-Some.is),
      (message, sym reads.remains ∙ gave),
    )

pub returns-in-None : goal.returns-in-None
returns-in-None g c = λ all read came front right reads.
    let left = g.S.SentSource.left c.args.source.now in
    let message = c.in-Ok-Some.message in
    let none = sym c.refusal.ensures ∙ c.in-None.is in
    let next =
    next_sent all right read came front c.args.window.now left reads message (g.S.SentSource.left c.next.new.self)
    (subst (λ o. IsNext (Ok o) left (g.S.SentSource.left c.next.new.self)) c.in-Ok-Some.field-0-is c.in-Ok-Some.ensures
    (left_known all right read came front c.args.window.now left reads))
    (subst (λ n. misplaced n (take read all.sent) message ≡ None) reads.harts
    (placed_if (take read all.sent) came front c.args.window.now reads.holds message none)) in
    (next.0, next.1, none)

pub returns-in-Ok-None : goal.returns-in-Ok-None
returns-in-Ok-None g c = λ all read came front right reads.
    let left = g.S.SentSource.left c.args.source.now in
    let new = g.S.SentSource.left c.next.new.self in
    let none =
    subst (λ o. IsNext (Ok o) left new) c.in-Ok-None.field-0-is c.in-Ok-None.ensures
    (left_known all right read came front c.args.window.now left reads) in
    let end : left.messages ≡ [] = ap (λ (l : Left). l.messages) none.0 in
    let read_all = at_end all right read came front c.args.window.now left reads end in
    let remains = sym none.0 ∙ reads.remains in (
      read_all,
      none.1 ∙ reads.remains,
      record {
        no_more =
            ap (λ l. l ++ all.rest) (sym (drop_all read all.sent (omega (arith, read_all))))
            ∙ sym (ap (λ (l : Left). l.messages) remains);
        no_reason = sym (ap (λ (l : Left). l.ending) remains);
      },
    )

pub returns-in-Err : goal.returns-in-Err
returns-in-Err g c = λ all read came front right reads.
    let left = g.S.SentSource.left c.args.source.now in
    let fails = c.in-Err.ensures (left_known all right read came front c.args.window.now left reads) in (
      subst (IsSourceFault c.in-Err.why) reads.remains fails.0,
      subst (λ l. StaysLeft l (g.S.SentSource.left c.next.new.self)) reads.remains fails.1,
    )
