-- The senders so far and one more are first senders, by a lemma on lists.
use Rattle.std.proofs.Common.{◌≤◌, ◌+◌, length, refl, subst, sym, ap, take, ◌∙◌}
use Rattle.std.proofs.lemmas.List.{length_push, take_all}
use Rattle.std.proofs.lemmas.Option.{slice_get_read}
use Rattle.bench.specs.steps.Sending.{AreNewSenders}
use Rattle.bench.proofs.NewSenders.{new_senders-next}
use Rattle.bench.proofs.SenderNext.{sender_of}
use Rattle.bench.proofs.sender.senders_of.Goals as goal

pub loop-place-preserved : goal.loop-place-preserved
loop-place-preserved g c =
    let logs = c.args.logs.now in
    let place = c.loop-place.place in
    let log = c.index-logs-place.result in
    let senders = c.loop-place.senders.items in
    let items = c.push_reserved.ensures.items in
    let sender = sender_of {B = g.row.B.Denot} c.args.period c.args.mode 0 log c.new.result 0 in
    let at = slice_get_read logs (length logs) place log refl c.loop-place-test.true c.index-logs-place.is in
    let same = ap (λ source. sender_of {B = g.row.B.Denot} c.args.period c.args.mode 0 log source 0) c.new.ensures in
    record {
      counted =
          ap length items
          ∙ length_push senders sender
          ∙ ap (λ n. n + 1) c.loop-place.invariant.counted;
      room = subst (λ n. length logs ≤ n) (sym c.push_reserved.ensures.capacity) c.loop-place.invariant.room;
      each =
          subst (AreNewSenders c.args.period c.args.mode (take (place + 1) logs)) (sym items)
          (new_senders-next c.args.period c.args.mode logs senders place log sender c.loop-place.invariant.each
          at same);
    }

pub returns : goal.returns
returns g c =
    subst (λ some. AreNewSenders c.args.period c.args.mode some c.loop-place.senders.items)
    (take_all c.loop-place.place c.args.logs.now c.loop-place-test.false) c.loop-place.invariant.each
