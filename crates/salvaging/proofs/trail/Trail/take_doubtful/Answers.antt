-- What was added is put together from the steps, by lemmas on parts.
use Rattle.std.proofs.Common.{◌≡◌, ◌<◌, ◌-◌, ◌++◌, [], ◌∷◌, refl, subst, ◌∙◌, arith}
use Rattle.salvaging.specs.LeftParts.{DoubtfulNumber, gap}
use Rattle.salvaging.specs.steps.UnderWay.{AddsParts}
use Rattle.salvaging.proofs.PushedParts.{adds_both}
use Rattle.salvaging.proofs.TrailSteps.{moved_on}
use Rattle.salvaging.proofs.trail.Trail.take_doubtful.Goals as goal

pub returns : goal.returns
returns g c = λ words run next closed u.
    let mode = c.args.mode in
    let number = c.args.number in
    let old = c.args.self.now in
    let gone = c.end_run.new.self in
    let gapped = c.push_gap.new.parts.items in
    let new = c.push_part.new.parts.items in
    let ends = c.in_ok-end_run.ensures.ends words mode run next closed u in
    let at : gone.next ≡ next = c.in_ok-end_run.ensures.next ∙ u.next_is in
    let lost = gap (number - next) in
    let one : 0 < 1 = omega arith in
    record {
      left = ends.left;
      leaves = ends.leaves;
      parts = adds_both ends.left (lost ++ DoubtfulNumber number c.args.first c.args.second ∷ []) old.parts.items
          gone.parts.items new ends.added
          (adds_both lost (DoubtfulNumber number c.args.first c.args.second ∷ []) gone.parts.items gapped new
          (subst (λ n. AddsParts (gap (number - n)) gone.parts.items gapped) at c.in_ok-push_gap.ensures)
          c.in_ok-push_part.ensures);
      under_way = moved_on words mode mode run closed next number 1 gone _ one ends.under_way refl refl refl refl refl;
    }
