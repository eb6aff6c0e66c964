-- The message that is written is joined with its number by hand.
use Rattle.std.proofs.Common.{arith}
use Rattle.std.proofs.lemmas.Result.{on_ok_weaker}
use Rattle.stimulus.proofs.SendLemmas.{numbered_one}
use Rattle.stimulus.proofs.sender.Numbers.write.Goals as goal

pub returns-clause-numbered : goal.returns-clause-numbered
returns-clause-numbered g c = λ profile.
    on_ok_weaker c.write_message.result
    (numbered_one c.args.self.now c.in-Some.next c.args.packet.now c.pack.result (g.W.Write.contents c.args.sink.now)
    (g.W.Write.contents c.write_message.new.w) (omega (arith, c.in-Some.ensures)) c.pack.ensures.value)
    c.write_message.ensures.written
