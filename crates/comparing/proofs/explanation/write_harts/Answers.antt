-- The prover does not part what is written at the hart that is not written: lemmas on that are handed to it.
use Rattle.comparing.specs.Explained.{hart_lines, names_in}
use Rattle.output.proofs.Items.{item_begun, items_front}
use Rattle.comparing.proofs.LineTexts.{line_written}
use Rattle.output.specs.Begun.{AppendsBeginning}
use Rattle.std.proofs.Common.{subst}
use Rattle.comparing.proofs.explanation.write_harts.Goals as goal

pub returns-in_err-write_hart-clause-begun : goal.returns-in_err-write_hart-clause-begun
returns-in_err-write_hart-clause-begun g c =
    let contents = g.W.Write.contents in
    let lines = hart_lines c.args.how.now.before (names_in c.args.how.now) c.args.how.now.stop in
    let harts = c.args.harts.now in
    let place = c.loop-place.place in
    let old = contents c.args.sink.now in
    let mid = contents c.loop-place.sink in
    let new = contents c.write_hart.new.sink in
    item_begun lines harts place old mid (items_front lines harts place old mid c.loop-place.invariant)
    c.hart_at.result.now new c.loop-place-test.true
    (subst (λ one. AppendsBeginning (lines one) mid new) c.hart_at.ensures c.write_hart.ensures.begun)

pub loop-place-preserved : goal.loop-place-preserved
loop-place-preserved g c =
    let contents = g.W.Write.contents in
    line_written (hart_lines c.args.how.now.before (names_in c.args.how.now) c.args.how.now.stop) c.args.harts.now c.loop-place.place c.hart_at.result.now
    c.loop-place-test.true c.hart_at.ensures (contents c.args.sink.now) (contents c.loop-place.sink)
    (contents c.write_hart.new.sink) c.loop-place.invariant c.in_ok-write_hart.ensures.text
