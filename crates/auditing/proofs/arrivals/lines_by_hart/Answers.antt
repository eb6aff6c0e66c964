-- One message more: by a lemma on lines, which no tactic finds.
use Rattle.std.proofs.Common.{◌<◌, ◌++◌, ◌∙◌, length, get_or, ap, refl, arith}
use Rattle.auditing.proofs.ArrivalLemmas.{lines_next}
use Rattle.auditing.specs.Arrivals.{arrival_line, arrival_lines}
use Rattle.auditing.proofs.arrivals.lines_by_hart.Goals as goal

pub loop-place-preserved : goal.loop-place-preserved
loop-place-preserved g c =
    let harts = c.args.harts.now in
    let place = c.loop-place.place in
    let hart = get_or harts place 0 in
    let within : place < length harts = omega arith in
    lines_next harts (arrival_lines c.args.all.now harts) c.loop-place.lines.items c.loop-place.states.items place
    c.loop-place.invariant hart c.take-arrival.new.cursors.items c.add_line.new.lines.items within refl
    c.take-arrival.ensures.moved
    (c.in_ok-add_line.ensures
    ∙ ap (λ its. c.loop-place.lines.items ++ arrival_line place hart its) c.take-arrival.ensures.arrival)
