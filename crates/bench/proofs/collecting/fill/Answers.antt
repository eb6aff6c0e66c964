-- One outcome more has its events and its flag: by laws on lists, which no tactic finds.
use Rattle.std.proofs.Common.{false, get_or, refl, arith}
use Rattle.bench.proofs.CollectorLemmas.{filled_next}
use Rattle.bench.proofs.collecting.fill.Goals as goal

pub loop-list-preserved : goal.loop-list-preserved
loop-list-preserved g c =
    let before = c.loop-list.invariant in
    let outcome = c.index_mut-outcome.result.now in
    let next = filled_next c.args.harts.now.items c.args.lists.items c.args.closed.now c.loop-list.harts.items
    c.loop-list.lists.items c.pop.new.self.items c.in-Some.list c.len-hart.result outcome
    (record outcome { decoded = c.in-Some.list; closed = get_or c.args.closed.now c.len-hart.result false })
    (record {
      count = before.count;
      few = before.few;
      taken = before.taken;
      rest = before.left;
      decoded = before.decoded;
      flags = before.closed;
    })
    c.requires.lists c.requires.closed c.in-Some.ensures.items
    (let len = c.len-hart.ensures in let ok = c.pop.new.self.ok.0 in omega (arith, len, ok))
    c.index_mut-outcome.ensures.value refl refl refl in
    record {
      count = next.count;
      few = next.few;
      taken = next.taken;
      left = next.rest;
      decoded = next.decoded;
      closed = next.flags;
    }
