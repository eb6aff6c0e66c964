-- The run from number 0 on has no packet yet.
use Rattle.std.proofs.Common.{false, [], None, refl, sym, subst}
use Rattle.losses.specs.steps.FollowingRuns.{FollowsRun}
use Rattle.losses.proofs.RunLemmas.{describes_nothing}
use Rattle.losses.proofs.StateLaws.{state_laws}
use Rattle.salvaging.proofs.trail.Trail.new.Goals as goal

pub returns-clause-under_way : goal.returns-clause-under_way
returns-clause-under_way g c = λ words mode.
    let decoder = c.new.result in
    let stands = c.new.ensures.stands words in
    let follows : FollowsRun words mode mode 0 [] false [] decoder = record {
      described = describes_nothing words;
      stands = λ stays. stands;
      stays_open = λ stays closed. let is = (state_laws.closed words [] [] decoder stands).0 closed in cc;
      announced = None;
      has_mode = c.new.ensures.unannounced;
      right = refl;
    } in
    record {
      follows = subst (λ events. FollowsRun words mode mode 0 [] false events decoder) (sym c.new-2.ensures.items)
          follows;
      first_reads = λ is. refl;
      next_is = refl;
      looking = refl;
      begins = refl;
    }
