-- The prover needs the lemma that one more port stands at its place.
use Rattle.std.proofs.Common.{◌∙◌, sym, arith}
use Rattle.funnel.proofs.NewPorts.{one_more}
use Rattle.funnel.proofs.opening.ports_of.Goals as goal

pub loop-hart-preserved : goal.loop-hart-preserved
loop-hart-preserved g c =
    let before = c.loop-hart.invariant in
    record {
      seat = rw (sym c.in_ok-try_clone.ensures) c.port_of-port.ensures.seat.0;
      outlet = c.port_of-port.ensures.next.0;
      taken = c.port_of-port.ensures.next.1 ∙ before.taken;
      same = c.port_of-port.ensures.seat.1 ∙ before.same;
      ports = one_more _ _ _ _ _ _ before.ports c.port_of-port.ensures.port before.same c.push_reserved.ensures.items;
      room = omega (arith, before.room);
    }
