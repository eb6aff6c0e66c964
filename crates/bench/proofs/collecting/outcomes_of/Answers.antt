-- One outcome more, and one log more that is legal: by laws on lists, which no tactic finds.
use Rattle.std.proofs.Common.{replicate, refl, ap, ◌∙◌, arith}
use Rattle.bench.specs.steps.Collecting.{nothing}
use Rattle.bench.proofs.CollectorLemmas.{legal-next, nothing-next}
use Rattle.bench.proofs.collecting.outcomes_of.Goals as goal

pub push_reserved-requires : goal.push_reserved-requires
push_reserved-requires g c =
    let room = c.loop-hart.invariant.room in
    let count = c.loop-hart.invariant.count in
    let test = c.loop-hart-test.true in
    omega (arith, room, count, test)

pub loop-hart-preserved : goal.loop-hart-preserved
loop-hart-preserved g c =
    let hart = c.loop-hart.hart in
    let count = c.loop-hart.invariant.count in
    let room = c.loop-hart.invariant.room in
    let len = c.push_reserved.ensures.len in
    let capacity = c.push_reserved.ensures.capacity in
    record {
      harts = nothing-next c.loop-hart.harts.items _ _ hart c.push_reserved.ensures.items c.loop-hart.invariant.harts
          c.new.ensures.items refl;
      count = omega (arith, count, len);
      room = omega (arith, room, capacity);
      legal = legal-next c.args.logs.now hart c.index-logs-hart.result c.loop-hart-test.true c.index-logs-hart.is
          (record {
            legal = c.events.ensures.legal;
            short = c.events.ensures.short;
            numbers = c.events.ensures.numbers;
            image = c.events.ensures.image;
          }) c.loop-hart.invariant.legal;
    }

pub returns-clause-harts : goal.returns-clause-harts
returns-clause-harts g c =
    let over = c.loop-hart-test.false in
    c.loop-hart.invariant.harts ∙ ap (λ n. replicate n nothing) (omega (arith, over))
