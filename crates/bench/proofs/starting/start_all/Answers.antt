-- The workers that were started, by lemmas on lists, which no tactic finds.
use Rattle.std.proofs.Common.{◌∙◌, ◌++◌, [], ◌∷◌, length, refl, sym, ap, subst, arith}
use Rattle.std.proofs.lemmas.List.{map-append}
use Rattle.std.proofs.lemmas.List.Elements.{All-push, All-same}
use Rattle.std.proofs.lemmas.Option.{slice_get-get_or}
use Rattle.encoder.specs.SourceAt.{SourceAt}
use Rattle.funnel.specs.Ends.{AreNewPorts, PortView}
use Rattle.bench.specs.declared.worker.LogPayloads.{LogPayloads}
use Rattle.bench.specs.steps.Gathering.{IsWorkerOf, harts_of}
use Rattle.bench.proofs.LastPort.{last_port}
use Rattle.bench.proofs.StartedLemmas.{begun_refused, begun_started, new_worker, none_begun}
use Rattle.bench.proofs.starting.start_all.Goals as goal

pub loop-port-init : goal.loop-port-init
loop-port-init g c =
    let has = c.requires.ports in
    let count = c.args.ports.ok.0 in
    let all = has.0 in
    let enough = c.requires.room.0 in
    let none = ap length c.requires.room.1 in
    let few = c.args.workers.ok.0 in
    record {
      ports = (sym count, λ hart below. has.1 hart (omega (arith, below, count, all)));
      few = omega (arith, count, all);
      room = omega (arith, count, all, enough, none, few);
      workers = λ k d within. absurd (omega (arith, within, none));
      keep = refl;
      harts =
          none_begun c.args.plan.now.config c.args.plan.now.logs.now _ (harts_of c.args.workers.items)
          c.args.collector.now (count ∙ all) c.requires.own c.requires.begun;
    }

pub start-requires-after_bounds : goal.start-requires-after_bounds
start-requires-after_bounds g c κs within =
    let popped =
    last_port _ _ _ _ _ c.in-Some.port c.loop-port.invariant.ports c.in-Some.ensures.items c.pop.new.self.ok.0 in
    (ap (λ at. at.number) c.new.ensures, ap (λ port. port.sent) popped.1)

pub loop-port-preserved-in-Some-start : goal.loop-port-preserved-in-Some-start
loop-port-preserved-in-Some-start g c =
    let now = c.loop-port.invariant in
    let worker = c.in-Some-start.worker in
    let pushed = c.push_reserved.ensures in
    let popped =
    last_port _ _ _ _ _ c.in-Some.port now.ports c.in-Some.ensures.items (c.len-hart.ensures ∙ c.pop.new.self.ok.0) in
    let place = c.len-hart.ensures in
    let count = popped.2 in
    let few = now.few in
    let room = now.room in
    let grown = pushed.len in
    let same = pushed.capacity in
    let known =
    slice_get-get_or c.args.plan.now.logs.now c.len-hart.result c.index-plan-hart.result (omega (arith, count, few)) in
    let at : LogPayloads → SourceAt = λ payloads. payloads.source in
    let new =
    new_worker at c.args.outlet.now.funnel c.args.plan.now.config c.args.plan.now.logs.now worker _ _ _ _
    c.in-Some-start.ensures.0 (ap at c.in-Some-start.ensures.1) popped.1 c.new.ensures known in
    record {
      ports = subst (λ n. AreNewPorts c.args.outlet.now.funnel n c.pop.new.self.items) place popped.0;
      few = omega (arith, few, count, place);
      room = omega (arith, room, count, place, grown, same);
      workers =
          All-same (IsWorkerOf at c.args.outlet.now.funnel c.args.plan.now.config c.args.plan.now.logs.now)
          c.push_reserved.new.self.items _ pushed.items
          (All-push (IsWorkerOf at c.args.outlet.now.funnel c.args.plan.now.config c.args.plan.now.logs.now)
          c.loop-port.workers.items worker now.workers new);
      keep = now.keep;
      harts =
          begun_started c.args.plan.now.config c.args.plan.now.logs.now _ c.len-hart.result _
          (harts_of c.loop-port.workers.items) c.loop-port.collector count place now.harts
          (harts_of c.push_reserved.new.self.items)
          (ap harts_of pushed.items
          ∙ map-append (λ w. w.promise.port.value.hart) c.loop-port.workers.items (worker ∷ [])
          ∙ ap (λ (port : PortView). harts_of c.loop-port.workers.items ++ port.hart ∷ [])
          (c.in-Some-start.ensures.0 ∙ popped.1));
    }

pub loop-port-preserved : goal.loop-port-preserved
loop-port-preserved g c =
    let now = c.loop-port.invariant in
    let popped =
    last_port _ _ _ _ _ c.in-Some.port now.ports c.in-Some.ensures.items (c.len-hart.ensures ∙ c.pop.new.self.ok.0) in
    let place = c.len-hart.ensures in
    let count = popped.2 in
    let few = now.few in
    let room = now.room in
    record {
      ports = subst (λ n. AreNewPorts c.args.outlet.now.funnel n c.pop.new.self.items) place popped.0;
      few = omega (arith, few, count, place);
      room = omega (arith, room, count, place);
      workers = now.workers;
      keep = ap (λ c. c.keep) c.refuse.ensures.same ∙ now.keep;
      harts =
          begun_refused c.args.plan.now.config c.args.plan.now.logs.now _ c.len-hart.result _
          (harts_of c.loop-port.workers.items) c.loop-port.collector count place now.harts c.refuse.new.self
          c.refuse.ensures.refused c.refuse.ensures.others c.refuse.ensures.same;
    }
