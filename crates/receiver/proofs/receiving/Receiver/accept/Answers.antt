-- A message that is accepted after others: by lemmas on messages, which no tactic finds.
use Rattle.std.proofs.Common.{sym, subst}
use Rattle.receiver.proofs.AcceptLemmas.{accepts_more, packet_read}
use Rattle.receiver.specs.Holds.{HasAccepted}
use Rattle.receiver.proofs.receiving.Receiver.accept.Goals as goal

pub returns-clause-accepted : goal.returns-clause-accepted
returns-clause-accepted g c = λ harts messages given.
    accepts_more harts messages c.args.message.now c.self.inside.demux c.accept.new.self c.self.inside.decoders.items _
    c.self.inside.closed.items c.accept.result
    (subst (HasAccepted harts messages) (sym c.self.view_is) given) c.accept.ensures.value c.accept.ensures.state

pub returns-clause-packet : goal.returns-clause-packet
returns-clause-packet g c = packet_read c.self.inside.demux c.args.message.now c.accept.result c.accept.ensures.value
