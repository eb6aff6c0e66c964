-- One byte more is a lemma, which no search finds.
use Rattle.std.proofs.Common.{◌∙◌, arith, refl, rules, sym, ap, get_or}
use Rattle.retire.specs.steps.Place.{next_place, place_after}
use Rattle.retire.specs.declared.boundary.Place.TheVariants as place
use Rattle.retire.proofs.PlaceLemmas.{after-more}
use Rattle.retire.proofs.boundary.last_start.Goals as goal
use Rattle.retire.proofs.boundary.last_start.Goals.{then-eq, else-eq}

pub loop-i-init : goal.loop-i-init
unfolding place_after
loop-i-init c = record { here = refl; within = omega arith; starts = refl }

pub loop-i-preserved : goal.loop-i-preserved
loop-i-preserved c =
    let here =
    c.next_place-place.ensures
    ∙ ap (λ at. next_place at (get_or c.args.text.now c.loop-i.i 0)) c.loop-i.invariant.here
    ∙ sym (after-more place.Start c.args.text.now c.loop-i.i (search (rules, arith))) in
    elim c.if-eq.branch [
      | then-eq w ↦ record {
        here = here;
        within = omega (arith, w.last-is);
        starts = rw w.last-is (sym here ∙ search rules);
      }
      | else-eq w ↦ record {
        here = here;
        within = let before = c.loop-i.invariant.within in omega (arith, w.last-is, before);
        starts = rw w.last-is c.loop-i.invariant.starts;
      }
    ]
