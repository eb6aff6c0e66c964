-- How many harts there are is counted here, since a search goes through all that is known of the receiver.
use Rattle.std.proofs.Common.{ap, arith, subst, sym, ◌∙◌}
use Rattle.receiver.specs.Received.{Received}
use Rattle.bench.specs.steps.Collecting.{IsCollected, taken_in}
use Rattle.bench.proofs.collecting.Collector.take_rooms.Goals as goal

pub give_rooms-requires : goal.give_rooms-requires
give_rooms-requires g c =
    let logs = c.self.invariant.logs in
    let lists = c.self.invariant.received.lists in omega (arith, logs, lists)

pub invariant_of-self : goal.invariant_of-self
invariant_of-self g c =
    subst (λ received. IsCollected (record {
      logs = c.self.inside.logs.now;
      keep = c.self.inside.keep;
      received = received;
      harts = taken_in c.self.inside.harts.items;
    })) (sym c.give_rooms.ensures) c.self.invariant

pub returns : goal.returns
returns g c =
    ap (λ (received : Received). record {
      logs = c.self.inside.logs.now;
      keep = c.self.inside.keep;
      received = received;
      harts = taken_in c.self.inside.harts.items;
    }) c.give_rooms.ensures ∙ c.self.view_is
