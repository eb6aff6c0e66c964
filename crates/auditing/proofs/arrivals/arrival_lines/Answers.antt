-- One message more: by a lemma on lines, which no tactic finds.
use Rattle.std.proofs.Common.{◌<◌, ◌++◌, ◌∙◌, length, ap, arith}
use Rattle.auditing.proofs.ArrivalLemmas.{harts_of, lines_more}
use Rattle.auditing.specs.Arrivals.{arrival_line, arrival_lines}
use Rattle.auditing.proofs.arrivals.arrival_lines.Goals as goal

pub loop-place-preserved : goal.loop-place-preserved
loop-place-preserved g c =
    let messages = c.args.messages.now in
    let place = c.loop-place.place in
    let m = c.index-messages-place.result in
    let within : place < length messages = omega arith in
    lines_more messages (arrival_lines c.args.all.now (harts_of messages)) c.loop-place.lines.items
    c.loop-place.cursors.items place c.loop-place.invariant m c.take-arrival.new.cursors.items
    c.add_line.new.lines.items within c.index-messages-place.is c.take-arrival.ensures.moved
    (c.in_ok-add_line.ensures
    ∙ ap (λ its. c.loop-place.lines.items ++ arrival_line place m.hart its) c.take-arrival.ensures.arrival)
