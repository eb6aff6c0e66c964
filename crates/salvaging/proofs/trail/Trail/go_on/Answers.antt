-- Behind lost numbers a run is under way by a lemma, which no tactic finds.
use Rattle.std.proofs.Common.{rules, ◌≡◌, ◌<◌, ◌-◌, ◌++◌, false, refl, ap, subst}
use Rattle.salvaging.specs.LeftParts.{gap}
use Rattle.salvaging.specs.steps.UnderWay.{AddsParts}
use Rattle.salvaging.proofs.PushedParts.{adds_both}
use Rattle.salvaging.proofs.TrailSteps.{leaves_lost, moved_on}
use Rattle.salvaging.proofs.trail.Trail.go_on.Goals as goal

pub returns-in_ok-push_gap-clause-goes_on : goal.returns-in_ok-push_gap-clause-goes_on
returns-in_ok-push_gap-clause-goes_on g c = λ words reads run next u.
    let mode = c.args.mode in
    let number = c.args.number in
    let old = c.args.self.now in
    let gone = c.end_run.new.self in
    let lost = number - old.next in
    let is : lost ≡ number - next = ap (λ n. number - n) u.next_is in
    let some : 0 < lost = search rules in
    let ends = c.in_ok-end_run.ensures.ends words reads run next false u in
    record {
      left = ends.left ++ gap (number - next);
      leaves = leaves_lost words reads run next (number - next) ends.left (subst (λ n. 0 < n) is some) ends.leaves;
      added = adds_both ends.left (gap (number - next)) old.parts.items gone.parts.items c.push_gap.new.parts.items
          ends.added (subst (λ n. AddsParts (gap n) gone.parts.items c.push_gap.new.parts.items) is
          c.in_ok-push_gap.ensures);
      under_way = moved_on words mode reads run false next number (number - next) gone _
          (subst (λ n. 0 < n) is some) ends.under_way refl refl refl refl refl;
    }
