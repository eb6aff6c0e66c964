-- What a run is, or why nothing is sent: said here, since a search goes through all that is known of the funnel.
use Rattle.std.proofs.Common.{◌≡◌, Err, ap, refl, ◌∙◌}
use Rattle.std.proofs.lemmas.Result.{IfErr-at_err}
use Rattle.funnel.specs.Ends.{OutletView}
use Rattle.bench.proofs.running.run_in_rooms.Goals as goal

pub returns-in-Err : goal.returns-in-Err
returns-in-Err g c = record {
  beginnings = tt;
  through = tt;
  stop = tt;
  refused_harts = tt;
  refused = λ fault is.
      ap (λ why. Err why) (IfErr-at_err (λ why. c.in-Err.fault ≡ why) (c.in-Err.ensures.refused fault is) refl);
  memory = c.in-Err.ensures.memory;
}

pub returns-in-Ok-run_plan : goal.returns-in-Ok-run_plan
returns-in-Ok-run_plan g c = record {
  beginnings = c.in-Ok-run_plan.ensures.beginnings;
  through = (
    ap (λ (outlet : OutletView). outlet.room) c.run_plan.ensures.funnel ∙ c.in-Ok.ensures.outlet.2,
    c.in-Ok-run_plan.ensures.taken,
    c.in-Ok-run_plan.ensures.carried,
  );
  stop = c.in-Ok-run_plan.ensures.stop;
  refused_harts = c.in-Ok-run_plan.ensures.refused_harts;
  refused = λ fault is. absurd (IfErr-at_err (λ why. ⊥) (c.in-Ok.ensures.refused fault is) tt);
  memory = λ none. tt;
}

pub returns-in-Err-run_plan : goal.returns-in-Err-run_plan
returns-in-Err-run_plan g c = record {
  beginnings = tt;
  through = tt;
  stop = tt;
  refused_harts = tt;
  refused = λ fault is. absurd (IfErr-at_err (λ why. ⊥) (c.in-Ok.ensures.refused fault is) tt);
  memory = λ none. refl;
}
