-- The search does not join the message that is written with those before it.
use Rattle.captures.proofs.AddedPackets.{adds_more}
use Rattle.captures.proofs.messages.Messages.write_all.Goals as goal

pub loop-packet-preserved : goal.loop-packet-preserved
loop-packet-preserved g c =
    adds_more g.F.Form.text c.args.packets.now c.loop-packet.packet-index c.packet-item.result c.args.self.now
    c.loop-packet.self c.write.new.self c.loop-packet-test.true c.packet-item.is c.loop-packet.invariant
    c.in_ok-write.ensures
