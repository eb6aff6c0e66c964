-- What was written stays so when the output is flushed: the lemmas on prefixes are handed to the prover.
use Rattle.std.proofs.KnownBytes.{Appends-kept}
use Rattle.output.proofs.Beginnings.{begun_kept, whole_begun}
use Rattle.log_commands.specs.Encoding.{written}
use Rattle.log_commands.proofs.encoding.write_messages.Goals as goal

pub returns-in_err-write_in_order-clause-begun : goal.returns-in_err-write_in_order-clause-begun
returns-in_err-write_in_order-clause-begun g c = c.write_in_order.ensures.begun

pub returns-in_err-flush-clause-begun : goal.returns-in_err-flush-clause-begun
returns-in_err-flush-clause-begun g c = λ logs are.
    begun_kept (written c.args.asked.now logs) (g.O.Write.contents c.args.out.now)
    (g.O.Write.contents c.write_in_order.new.out) (g.O.Write.contents c.flush.new.self)
    (c.write_in_order.ensures.begun logs are) c.flush.ensures.bytes

pub returns-clause-text : goal.returns-clause-text
returns-clause-text g c = λ logs are.
    Appends-kept (g.O.Write.contents c.args.out.now) (g.O.Write.contents c.write_in_order.new.out)
    (g.O.Write.contents c.flush.new.self) (written c.args.asked.now logs)
    (c.in_ok-write_in_order.ensures.text logs are) c.flush.ensures.bytes

pub returns-clause-begun : goal.returns-clause-begun
returns-clause-begun g c = λ logs are.
    whole_begun (written c.args.asked.now logs) (g.O.Write.contents c.args.out.now)
    (g.O.Write.contents c.flush.new.self) (returns-clause-text g c logs are)
