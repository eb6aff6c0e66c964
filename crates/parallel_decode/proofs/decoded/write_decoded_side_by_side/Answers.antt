-- What is written is what the survey found: by lemmas, which no tactic finds.
use Rattle.std.proofs.Common.{inr}
use Rattle.output.proofs.Beginnings.{whole_begun}
use Rattle.parallel_decode.specs.HartsText.{harts_text_of}
use Rattle.parallel_decode.proofs.decoded.write_decoded_side_by_side.Goals as goal

pub write_harts_side_by_side-requires-clause-marked : goal.write_harts_side_by_side-requires-clause-marked
write_harts_side_by_side-requires-clause-marked g c = λ κs within.
    (c.in_ok-found.ensures.lists, c.in_ok-found.ensures.marked)

pub returns-in_err-write_harts_side_by_side-clause-begun : goal.returns-in_err-write_harts_side_by_side-clause-begun
returns-in_err-write_harts_side_by_side-clause-begun g c = inr (record {
  lists = c.in_ok-found.ensures.lists;
  closed = c.in_ok-found.found.survey.closed.items;
  stop = c.in_ok-found.found.survey.fault;
  decoded = c.in_ok-found.ensures.decoded;
  begun = c.write_harts_side_by_side.ensures.begun c.in_ok-found.ensures.lists c.in_ok-found.ensures.marked;
})

pub returns-clause-written : goal.returns-clause-written
returns-clause-written g c = record {
  lists = c.in_ok-found.ensures.lists;
  decoded = c.in_ok-found.ensures.decoded;
  appended = c.in_ok-write_harts_side_by_side.ensures.text c.in_ok-found.ensures.lists c.in_ok-found.ensures.marked;
}

pub returns-clause-begun : goal.returns-clause-begun
returns-clause-begun g c =
    let writes = returns-clause-written g c in
    inr (record {
      lists = writes.lists;
      closed = c.in_ok-found.found.survey.closed.items;
      stop = c.in_ok-found.found.survey.fault;
      decoded = writes.decoded;
      begun = whole_begun (harts_text_of c.args.capture.now.range 0 writes.lists) (g.O.Write.contents c.args.out.now)
          (g.O.Write.contents c.write_harts_side_by_side.new.out) writes.appended;
    })
