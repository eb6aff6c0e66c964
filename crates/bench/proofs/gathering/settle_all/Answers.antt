-- One worker more is settled: by a lemma on lists, which no tactic finds.
use Rattle.std.proofs.Common.{◌≡◌, ◌<◌, ◌⊎◌, ◌∙◌, ◌++◌, ℕ, All, List, Some, true, [], ◌∷◌, ap, arith, inl, inr, length}
use Rattle.std.proofs.Common.{refl, rules, subst, sym}
use Rattle.std.specs.Prelude.{Contains}
use Rattle.std.specs.declared.thread.PromisedHandle.{PromisedHandle}
use Rattle.std.proofs.lemmas.List.{length-set, map-append}
use Rattle.std.proofs.lemmas.List.Elements.{All-pop}
use Rattle.legalpath.specs.ProgramLog.{ProgramLog}
use Rattle.encoder.specs.SourceAt.{SourceAt}
use Rattle.message.specs.OfHart.{of_hart}
use Rattle.funnel.specs.Ends.{FunnelId, OutletView}
use Rattle.bench.specs.Working.{AreNotAll, CarryFirst}
use Rattle.bench.specs.declared.config.Config.{Config}
use Rattle.bench.specs.declared.worker.Sending.{Sending}
use Rattle.bench.specs.declared.worker.Work.{Work}
use Rattle.bench.specs.steps.Gathering.{IsWorkerOf, harts_of}
use Rattle.bench.proofs.WorkLemmas.{carried_fewer, lacks_noted}
use Rattle.bench.proofs.gathering.settle_all.Goals as goal

-- The last of workers is one of them.
last_worker : {S : Type 0} (at : S → SourceAt) (funnel : FunnelId) (config : Config) (logs : List ProgramLog)
    (workers rest : List (PromisedHandle Work (Sending S))) (last : PromisedHandle Work (Sending S))
    → workers ≡ rest ++ last ∷ [] → All (IsWorkerOf at funnel config logs) workers
    → All (IsWorkerOf at funnel config logs) rest × IsWorkerOf at funnel config logs last
last_worker at funnel config logs workers rest last is all =
    All-pop (IsWorkerOf at funnel config logs) workers rest (Some last) is all

-- What holds of each hart whose worker is not left holds of all where none is left.
of_none : {S P : Type 0} (hart : ℕ) (left : List (PromisedHandle Work (Sending S))) → left ≡ []
    → P ⊎ Contains (harts_of left) hart → P
of_none hart left is (inl settled) = settled
of_none hart left is (inr among) =
    let low = subst (λ workers. among.0 < length (harts_of workers)) is among.1 in absurd (omega (arith, low))

pub loop-worker-init : goal.loop-worker-init
loop-worker-init g c = record {
  outlet = refl;
  workers = c.requires.workers;
  count = refl;
  lacks = λ hart set. absurd (c.requires.none hart set);
  carried = λ hart log known among. inr among;
}

pub settle-hart-requires : goal.settle-hart-requires
settle-hart-requires g c =
    let popped = last_worker g.S.Payloads.at _ _ _ _ _ c.in-Some.worker c.in-Some.ensures.items
    c.loop-worker.invariant.workers in (
      search rules,
      popped.1.port ∙ sym (ap (λ (outlet : OutletView). outlet.funnel) c.loop-worker.invariant.outlet),
    )

pub loop-worker-preserved : goal.loop-worker-preserved
loop-worker-preserved g c =
    let now = c.loop-worker in
    let worker = c.in-Some.worker in
    let at = g.S.Payloads.at in
    let funnel = c.args.outlet.now.funnel in
    let config = c.args.plan.now.config in
    let logs = c.args.plan.now.logs.now in
    let taken = c.args.outlet.now.taken in
    let popped = last_worker at funnel config logs now.workers.items c.pop.new.self.items worker c.in-Some.ensures.items
    now.invariant.workers in
    let own = popped.1 in
    let source = at worker.promise.source.value in
    let hart = worker.promise.port.value.hart in
    let first =
    subst (λ (o : OutletView). CarryFirst source.period source.mode source.log (of_hart hart o.taken))
    now.invariant.outlet c.settle-hart.ensures.carried in
    let lacks : c.settle-hart.result.1 ≡ true
    → AreNotAll source.period source.mode source.log (of_hart hart taken) =
    λ back. subst (λ (o : OutletView). AreNotAll source.period source.mode source.log (of_hart hart o.taken))
    now.invariant.outlet (c.settle-hart.ensures.lacks back) in
    record {
      outlet = c.settle-hart.ensures.outlet ∙ now.invariant.outlet;
      workers = popped.0;
      count = length-set now.handed_back c.from.result c.settle-hart.result.1 ∙ now.invariant.count;
      lacks =
          lacks_noted at funnel config logs worker own taken now.handed_back c.from.result c.settle-hart.result.1
          (c.from.ensures ∙ c.settle-hart.ensures.hart) lacks now.invariant.lacks;
      carried = λ other log known among.
          carried_fewer at funnel config logs worker own taken (harts_of c.pop.new.self.items) first other log known
          (subst (λ harts. CarryFirst config.period config.mode log (of_hart other taken) ⊎ Contains harts other)
          (ap harts_of c.in-Some.ensures.items
          ∙ map-append (λ w. w.promise.port.value.hart) c.pop.new.self.items (worker ∷ []))
          (now.invariant.carried other log known among));
    }

pub returns : goal.returns
returns g c =
    let now = c.loop-worker.invariant in
    let none : c.loop-worker.workers.items ≡ [] = search rules in
    record {
      outlet = now.outlet;
      carried = λ hart log known among.
          of_none hart c.loop-worker.workers.items none (now.carried hart log known among);
      count = now.count;
      lacks = now.lacks;
    }
