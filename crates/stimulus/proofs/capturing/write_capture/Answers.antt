-- The clauses hold for any program, which the search does not instantiate.
use Rattle.std.proofs.Common.{◌∙◌, ap}
use Rattle.rvclass.specs.Fetch.{words_of}
use Rattle.stimulus.specs.Mixed.{ending_of, mixed_capture}
use Rattle.stimulus.specs.Order.{first_drawn}
use Rattle.stimulus.proofs.SendLemmas.{begun_none}
use Rattle.stimulus.proofs.capturing.write_capture.Goals as goal

pub write_messages-requires-clause-none : goal.write_messages-requires-clause-none
write_messages-requires-clause-none g c = c.in_ok-senders.ensures.senders (words_of c.args.program.now)

pub write_messages-requires-clause-first : goal.write_messages-requires-clause-first
write_messages-requires-clause-first g c =
    let asked = c.args.asked.now in
    let bursts = c.bursts_of.result in
    c.in_ok-order.ensures
    ∙ ap (λ burst. first_drawn asked.seed asked.harts burst bursts.ending bursts.ends) c.bursts_of.ensures.longest
    ∙ ap (λ ending. first_drawn asked.seed asked.harts asked.burst ending bursts.ends) c.bursts_of.ensures.ending
    ∙ ap (first_drawn asked.seed asked.harts asked.burst (ending_of asked)) c.bursts_of.ensures.ends

pub returns-in_err-senders-clause-begun : goal.returns-in_err-senders-clause-begun
returns-in_err-senders-clause-begun g c =
    begun_none (mixed_capture c.args.program.now c.args.asked.now) (g.W.Write.contents c.args.sink.now)

pub returns-in_err-order-clause-begun : goal.returns-in_err-order-clause-begun
returns-in_err-order-clause-begun g c =
    begun_none (mixed_capture c.args.program.now c.args.asked.now) (g.W.Write.contents c.args.sink.now)
