-- The rows are carried by lemmas: the search joins no texts.
use Rattle.std.proofs.Common.{◌≡◌, arith, subst}
use Rattle.rvclass.specs.Fetch.{words_of}
use Rattle.stimulus.specs.Walked.{Walks}
use Rattle.stimulus.specs.steps.Rows.{AddsRows}
use Rattle.stimulus.proofs.RowLemmas.{more_begun, reached_begun, reached_more, reached_none, reached_on, reached_rows}
use Rattle.stimulus.proofs.logging.write_events.Goals as goal

pub loop-init : goal.loop-init
loop-init g c = (
  λ start has.
      reached_none (words_of c.args.program.now) start c.args.hart.now c.args.room.now.items
      (g.W.Write.contents c.args.sink.now) has,
  omega arith,
)

pub loop-preserved : goal.loop-preserved
loop-preserved g c =
    let words = words_of c.args.program.now in
    let room = c.write_rows_in.ensures.room in (
      λ start has.
          let r = c.loop.invariant.0 start has in
          let walks = subst (λ o. Walks words start r.seen o c.next_event.new.self) c.in-Some.is
          (c.next_event.ensures.walks start r.seen r.walked_on) in
          reached_more words start c.loop.counter c.loop.hart c.args.room.now.items c.loop.room.items
          (g.W.Write.contents c.args.sink.now) (g.W.Write.contents c.loop.sink) r c.in-Some.event
          c.next_event.new.self walks c.write_rows_in.new.room.items (g.W.Write.contents c.write_rows_in.new.sink)
          c.in_ok-write_rows_in.ensures.rows,
      omega (arith, c.loop.invariant.1, room),
    )

pub returns-in_err-write_rows_in-clause-begun : goal.returns-in_err-write_rows_in-clause-begun
returns-in_err-write_rows_in-clause-begun g c = λ start has.
    let words = words_of c.args.program.now in
    let r = c.loop.invariant.0 start has in
    let walks = subst (λ o. Walks words start r.seen o c.next_event.new.self) c.in-Some.is
    (c.next_event.ensures.walks start r.seen r.walked_on) in
    more_begun words start c.loop.counter c.loop.hart c.args.room.now.items c.loop.room.items
    (g.W.Write.contents c.args.sink.now) (g.W.Write.contents c.loop.sink) r c.in-Some.event c.next_event.new.self
    walks c.args.events (g.W.Write.contents c.write_rows_in.new.sink) (omega arith) c.write_rows_in.ensures.begun

pub returns-in_default-clause-rows : goal.returns-in_default-clause-rows
returns-in_default-clause-rows g c = λ start has.
    let words = words_of c.args.program.now in
    let r = c.loop.invariant.0 start has in
    reached_on words start c.loop.counter c.loop.hart c.args.room.now.items c.loop.room.items
    (g.W.Write.contents c.args.sink.now) (g.W.Write.contents c.loop.sink) r c.next_event.new.self (omega arith)
    (subst (λ o. Walks words start r.seen o c.next_event.new.self) c.in_default.is
    (c.next_event.ensures.walks start r.seen r.walked_on))

pub returns-in_default-clause-begun : goal.returns-in_default-clause-begun
returns-in_default-clause-begun g c = λ start has.
    reached_begun (words_of c.args.program.now) start c.loop.counter c.loop.hart c.args.room.now.items
    c.loop.room.items (g.W.Write.contents c.args.sink.now) (g.W.Write.contents c.loop.sink)
    (c.loop.invariant.0 start has) c.args.events (omega arith)

pub returns-clause-rows : goal.returns-clause-rows
returns-clause-rows g c = λ start has.
    let all : c.loop.counter ≡ c.args.events = omega arith in
    subst (λ n. AddsRows (words_of c.args.program.now) start n c.args.room.now.items c.loop.room.items
    (g.W.Write.contents c.args.sink.now) (g.W.Write.contents c.loop.sink)) all
    (reached_rows (words_of c.args.program.now) start c.loop.counter c.loop.hart c.args.room.now.items
    c.loop.room.items (g.W.Write.contents c.args.sink.now) (g.W.Write.contents c.loop.sink)
    (c.loop.invariant.0 start has))

pub returns-clause-begun : goal.returns-clause-begun
returns-clause-begun g c = λ start has.
    reached_begun (words_of c.args.program.now) start c.loop.counter c.loop.hart c.args.room.now.items
    c.loop.room.items (g.W.Write.contents c.args.sink.now) (g.W.Write.contents c.loop.sink)
    (c.loop.invariant.0 start has) c.args.events (omega arith)
