-- The three steps of writing a log are joined by hand.
use Rattle.std.proofs.Common.{◌%◌, ◌∙◌, ap}
use Rattle.std.proofs.lemmas.Result.{on_ok_weaker}
use Rattle.rvclass.specs.Fetch.{words_of}
use Rattle.stimulus.specs.Walk.{first_walk}
use Rattle.stimulus.specs.declared.walk.Extent.{Extent}
use Rattle.stimulus.proofs.RowLemmas.{end_begun, log_begun, log_written, nothing_begun}
use Rattle.stimulus.proofs.WalkLemmas.{even_base}
use Rattle.stimulus.proofs.logging.write_log.Goals as goal

pub within-hart-requires : goal.within-hart-requires
within-hart-requires g c =
    ap (λ (extent : Extent). extent.base % 2) c.of-extent.ensures.extent
    ∙ even_base c.args.program.now c.of-extent.ensures.image

pub returns-in_err-room-clause-begun : goal.returns-in_err-room-clause-begun
returns-in_err-room-clause-begun g c =
    nothing_begun c.args.program.now c.args.asked.now (g.W.Write.contents c.args.sink.now)

pub returns-in_err-begin_log_in-clause-begun : goal.returns-in_err-begin_log_in-clause-begun
returns-in_err-begin_log_in-clause-begun g c =
    nothing_begun c.args.program.now c.args.asked.now (g.W.Write.contents c.args.sink.now)

pub returns-in_err-write_events-clause-begun : goal.returns-in_err-write_events-clause-begun
returns-in_err-write_events-clause-begun g c =
    let asked = c.args.asked.now in
    let extent = c.of-extent.result in
    let start = first_walk extent asked.mix asked.seed asked.hart in
    log_begun c.args.program.now asked extent c.begin_log_in.new.room.items (g.W.Write.contents c.args.sink.now)
    (g.W.Write.contents c.write_events.new.sink) c.of-extent.ensures.extent c.in_ok-begin_log_in.ensures.held
    (c.write_events.ensures.begun start (c.within-hart.ensures (words_of c.args.program.now)))

pub returns-clause-begun : goal.returns-clause-begun
returns-clause-begun g c =
    let asked = c.args.asked.now in
    let extent = c.of-extent.result in
    let start = first_walk extent asked.mix asked.seed asked.hart in
    end_begun c.args.program.now asked extent c.begin_log_in.new.room.items c.write_events.new.room.items
    (g.W.Write.contents c.args.sink.now) (g.W.Write.contents c.write_events.new.sink) c.of-extent.ensures.extent
    c.in_ok-begin_log_in.ensures.held
    (c.in_ok-write_events.ensures.rows start (c.within-hart.ensures (words_of c.args.program.now)))
    (g.W.Write.contents c.end_log_in.new.sink) c.end_log_in.ensures.begun

pub returns-clause-written : goal.returns-clause-written
returns-clause-written g c =
    let asked = c.args.asked.now in
    let extent = c.of-extent.result in
    let start = first_walk extent asked.mix asked.seed asked.hart in
    on_ok_weaker c.end_log_in.result
    (log_written c.args.program.now asked extent c.begin_log_in.new.room.items c.write_events.new.room.items
    (g.W.Write.contents c.args.sink.now) (g.W.Write.contents c.write_events.new.sink) c.of-extent.ensures.extent
    c.in_ok-begin_log_in.ensures.held
    (c.in_ok-write_events.ensures.rows start (c.within-hart.ensures (words_of c.args.program.now)))
    c.of-extent.ensures.image (g.W.Write.contents c.end_log_in.new.sink)) c.end_log_in.ensures.written
