-- The harts so far and one more are first harts, by a lemma on lists.
use Rattle.captures.proofs.RowsInTurn.{next_added, next_begun, next_written}
use Rattle.captures.proofs.Within.{few_added}
use Rattle.captures.proofs.measure_table.write_harts.Goals as goal

pub loop-hart-preserved : goal.loop-hart-preserved
loop-hart-preserved g c =
    let each = g.H.Harts.each c.args.harts.now in
    let hart = c.loop-hart.hart in
    let measures = c.measures-measures.result in
    let found = c.measures-measures.ensures.value in
    let old = g.W.Write.contents c.args.sink.now in
    let mid = g.W.Write.contents c.loop-hart.sink in
    let new = g.W.Write.contents c.write_text.new.out in
    record {
      all = next_added each hart measures found c.loop-hart.all c.add.new.self c.loop-hart.invariant.all c.add.ensures;
      few = few_added hart c.loop-hart.all measures c.add.new.self c.loop-hart.invariant.few
          c.measures-measures.ensures.few c.add.ensures;
      text = next_written each hart measures found old mid new c.loop-hart.invariant.text
          c.in_ok-write_text.ensures.whole;
    }

pub returns-in_err-write_text-clause-begun : goal.returns-in_err-write_text-clause-begun
returns-in_err-write_text-clause-begun g c =
    next_begun (g.H.Harts.each c.args.harts.now) c.loop-hart.hart c.measures-measures.result
    c.measures-measures.ensures.value
    (g.W.Write.contents c.args.sink.now) (g.W.Write.contents c.loop-hart.sink) (g.W.Write.contents c.write_text.new.out)
    c.loop-hart.invariant.text c.write_text.ensures.begun
