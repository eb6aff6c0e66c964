-- Each clause is that of the call: said here, since a search goes through all that is known of the outlet.
use Rattle.std.proofs.Common.{◌≡◌, Err, ap, refl}
use Rattle.std.proofs.lemmas.Result.{IfErr-at_err}
use Rattle.bench.proofs.running.run.Goals as goal

pub returns-in-Ok : goal.returns-in-Ok
returns-in-Ok g c = record {
  beginnings = c.in-Ok.ensures.beginnings;
  stop = c.in-Ok.ensures.stop;
  refused_harts = c.in-Ok.ensures.refused_harts;
  refused = λ fault is. absurd (IfErr-at_err (λ why. ⊥) (c.in-Ok.ensures.refused fault is) tt);
  memory = λ none. tt;
}

pub returns : goal.returns
returns g c = record {
  beginnings = tt;
  stop = tt;
  refused_harts = tt;
  refused = λ fault is.
      ap (λ why. Err why) (IfErr-at_err (λ why. c.in-Err.fault ≡ why) (c.in-Err.ensures.refused fault is) refl);
  memory = c.in-Err.ensures.memory;
}
