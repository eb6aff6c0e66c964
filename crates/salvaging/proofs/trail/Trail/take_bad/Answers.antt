-- What was added is put together from the steps, by lemmas on parts.
use Rattle.std.proofs.Common.{◌<◌, ◌+◌, [], ◌∷◌, refl, arith, false}
use Rattle.salvaging.specs.LeftParts.{BadNumber}
use Rattle.salvaging.proofs.PushedParts.{adds_both}
use Rattle.salvaging.proofs.TrailSteps.{moved_on}
use Rattle.salvaging.proofs.trail.Trail.take_bad.Goals as goal

pub returns : goal.returns
returns g c = λ words run u.
    let mode = c.args.mode in
    let number = c.args.number in
    let old = c.args.self.now in
    let gone = c.end_run.new.self in
    let ends = c.in_ok-end_run.ensures.ends words mode run number false u in
    let one : 0 < 1 = omega arith in
    record {
      left = ends.left;
      leaves = ends.leaves;
      parts = adds_both ends.left (BadNumber number c.args.place c.args.why ∷ []) old.parts.items gone.parts.items
          c.push_part.new.parts.items ends.added c.in_ok-push_part.ensures;
      under_way = moved_on words mode mode run false number (number + 1) 1 gone _ one ends.under_way refl refl refl refl
          refl;
    }
