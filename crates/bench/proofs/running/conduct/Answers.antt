-- What came of harts, by lemmas on collectors, which no tactic finds.
use Rattle.std.proofs.Common.{◌≡◌, ◌≤◌, ◌∙◌, ℕ, List, Some, true, length, slice_get, sym, ap, subst, arith}
use Rattle.std.proofs.lemmas.Grind.{common_steps}
use Rattle.funnel.specs.Ends.{OutletView}
use Rattle.bench.specs.Beginnings.{AreCarried, AreThoseTaken, LackSomeTaken}
use Rattle.bench.specs.Collected.{Collected, HasCollected}
use Rattle.bench.specs.Stopping.{LacksPayloads, NamesOpen}
use Rattle.bench.specs.steps.Gathering.{AreGathered, harts_of}
use Rattle.bench.specs.steps.Taking.{CameUnlessRefused}
use Rattle.bench.proofs.CollectorLemmas.{none_set}
use Rattle.bench.proofs.FirstHarts.{names_back, names_open}
use Rattle.bench.proofs.ReplayEnds.{Finishes, are_beginnings, are_those_taken, lack_some_taken, none_is_closed}
use Rattle.bench.proofs.SettledHarts.{are_carried, gathered_taken, handed_back_as}
use Rattle.bench.proofs.running.conduct.Goals.{After-settle_all}
use Rattle.bench.proofs.running.conduct.Goals as goal

pub start_all-workers-requires-clause-begun : goal.start_all-workers-requires-clause-begun
start_all-workers-requires-clause-begun g c κs within = λ hart log at.
    let config = c.args.plan.now.config in
    subst (HasCollected config.period config.mode log 0 hart) (sym c.take_rooms.ensures)
    (c.in_ok-collector.ensures.begun config.period config.mode hart log at)

pub settle_all-requires-clause-workers : goal.settle_all-requires-clause-workers
settle_all-requires-clause-workers g c κs within = λ k d low.
    let own = c.start_all-workers.ensures.workers k d low in
    record {
      port = own.port ∙ sym (ap (λ (outlet : OutletView). outlet.funnel) c.collect.ensures.outlet);
      log = own.log;
      period = own.period;
      mode = own.mode;
    }

pub settle_all-requires-clause-none : goal.settle_all-requires-clause-none
settle_all-requires-clause-none g c κs within = λ hart.
    none_set (length c.args.plan.now.logs.now) c.as_mut_slice.result.now hart
    (c.as_mut_slice.ensures.value ∙ c.in_ok-handed_back.ensures.items_if_clones_equal (λ y same. same))

module _ (g : _) (c : After-settle_all g) where
  -- The harts whose workers were started.
  abbrev started : List ℕ
  started = harts_of c.start_all-workers.result.items

  -- What was taken of the funnel is gathered.
  gathered : AreGathered c.args.plan.now.config c.args.plan.now.logs.now started c.collect.new.outlet.taken
      c.collect.new.collector
  gathered =
      c.collect.ensures.gathered c.args.plan.now.config c.args.plan.now.logs.now started
      (subst (λ taken. AreGathered c.args.plan.now.config c.args.plan.now.logs.now started taken
      c.start_all-workers.new.collector) (sym c.requires.outlet.0) c.start_all-workers.ensures.gathered)

  -- And taken, now that the workers are settled.
  taken : CameUnlessRefused c.args.plan.now.config.period c.args.plan.now.config.mode c.args.plan.now.logs.now
      c.collect.new.outlet.taken c.collect.new.collector
  taken =
      gathered_taken c.args.plan.now.config c.args.plan.now.logs.now started c.collect.new.outlet.taken
      c.collect.new.collector gathered c.settle_all.ensures.carried

  keep : c.collect.new.collector.keep ≡ c.args.plan.now.config.keep
  keep =
      c.collect.ensures.keep ∙ c.start_all-workers.ensures.keep
      ∙ ap (λ (collected : Collected). collected.keep) c.take_rooms.ensures ∙ c.in_ok-collector.ensures.made.1

pub stop_of-outcome-requires : goal.stop_of-outcome-requires
stop_of-outcome-requires g c =
    let came = gathered g (goal.at.stop_of-outcome-requires g c).After-settle_all in
    let harts = c.as_slice.ensures.len in
    let flags = c.as_slice-2.ensures.len in
    let count = c.finish-outcome.ensures.count in
    let own = ap length came.own in
    let same = c.settle_all.ensures.count in
    let slice = c.as_mut_slice.ensures.len in
    let all = c.in_ok-handed_back.ensures.len in
    let few = c.requires.count in (
      omega (arith, harts, flags, count, own, same, slice, all),
      subst (λ n. n ≤ 64) (sym (ap length c.as_slice.ensures.value ∙ count ∙ own)) few,
    )

pub returns : goal.returns
returns g c =
    let config = c.args.plan.now.config in
    let logs = c.args.plan.now.logs.now in
    let collected = c.collect.new.collector in
    let harts = c.finish-outcome.result.harts.items in
    let legal = c.in_ok-collector.ensures.legal in
    let ends : Finishes collected harts =
    record { count = c.finish-outcome.ensures.count; came = c.finish-outcome.ensures.came } in
    let settled = (goal.at.returns g c).After-settle_all in
    let kept = keep g settled in
    let came = taken g settled in
    let flags : c.as_slice-2.result.now ≡ c.settle_all.new.handed_back = grind (arith, common_steps) in
    let same = sym c.settle_all.ensures.outlet in
    record {
      beginnings =
          are_beginnings config logs c.collect.new.outlet.taken collected harts legal kept came ends;
      taken =
          subst (λ (outlet : OutletView). AreThoseTaken config logs outlet.taken harts) same
          (are_those_taken config logs c.collect.new.outlet.taken collected harts legal kept came ends);
      carried =
          subst (λ (outlet : OutletView). AreCarried config logs outlet.taken harts) same
          (are_carried config logs (started g settled) c.collect.new.outlet.taken collected (gathered g settled)
          c.settle_all.ensures.carried harts ends);
      lacks =
          subst (λ (outlet : OutletView). LackSomeTaken outlet.taken harts) same
          (lack_some_taken config logs c.collect.new.outlet.taken collected harts legal kept came ends);
      stop =
          subst (NamesOpen c.stop_of-outcome.result) c.as_slice.ensures.value
          (names_open c.as_slice.result.now c.as_slice-2.result.now c.stop_of-outcome.result c.stop_of-outcome.ensures);
      refused_harts =
          none_is_closed config logs c.collect.new.outlet.taken collected harts legal kept came ends;
      handed_back =
          handed_back_as _ (LacksPayloads config.period config.mode logs c.settle_all.new.outlet.taken)
          c.stop_of-outcome.result
          (λ hart at. subst (λ (outlet : OutletView). LacksPayloads config.period config.mode logs outlet.taken hart)
          same (c.settle_all.ensures.lacks hart (subst (λ some. slice_get some hart ≡ Some true) flags at)))
          (names_back c.as_slice.result.now c.as_slice-2.result.now c.stop_of-outcome.result c.stop_of-outcome.ensures);
      untouched = tt;
      funnel =
          c.settle_all.ensures.outlet ∙ c.collect.ensures.outlet
          ∙ ap (λ (outlet : OutletView). record c.args.outlet.now { taken = outlet.taken }) same;
    }
