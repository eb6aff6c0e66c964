-- The search does not join the message that is written with those before it.
use Rattle.std.proofs.Common.{arith}
use Rattle.stimulus.proofs.SendLemmas.{numbered_begun, numbered_more, numbered_none, numbered_whole}
use Rattle.stimulus.proofs.sender.Numbers.write_all.Goals as goal

pub loop-packet-init : goal.loop-packet-init
loop-packet-init g c = λ all. numbered_none c.args.self.now (g.W.Write.contents c.args.sink.now)

pub loop-packet-preserved : goal.loop-packet-preserved
loop-packet-preserved g c =
    numbered_more c.args.packets.now c.loop-packet.packet-index c.packet-item.result c.args.self.now
    c.loop-packet.self c.write.new.self (g.W.Write.contents c.args.sink.now) (g.W.Write.contents c.loop-packet.sink)
    (g.W.Write.contents c.write.new.sink) c.loop-packet-test.true c.packet-item.is c.loop-packet.invariant
    c.in_ok-write.ensures.numbered

pub returns-in_err-write-clause-begun : goal.returns-in_err-write-clause-begun
returns-in_err-write-clause-begun g c =
    numbered_begun c.args.packets.now c.loop-packet.packet-index c.packet-item.result c.args.self.now c.loop-packet.self
    (g.W.Write.contents c.args.sink.now) (g.W.Write.contents c.loop-packet.sink) (g.W.Write.contents c.write.new.sink)
    c.loop-packet-test.true c.packet-item.is c.loop-packet.invariant c.write.ensures.begun

pub returns-clause-begun : goal.returns-clause-begun
returns-clause-begun g c =
    numbered_whole c.args.packets.now c.loop-packet.packet-index c.args.self.now c.loop-packet.self
    (g.W.Write.contents c.args.sink.now) (g.W.Write.contents c.loop-packet.sink) (omega arith) c.loop-packet.invariant
