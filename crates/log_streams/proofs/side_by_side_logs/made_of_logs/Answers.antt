-- What was made of each log gives what was made of all.
use Rattle.std.proofs.Common.{inl, length, refl, rules}
use Rattle.log_streams.specs.Made.{IsMadeOf, IsMadeOfGiven}
use Rattle.log_streams.specs.steps.Allowed.{IsMadeAt}
use Rattle.log_streams.proofs.AllMadeLemmas.{at-index, has-next, made-of-all, made-up-to, may-stop, none-made-of}
use Rattle.log_streams.proofs.AllMadeLemmas.{none-refused}
use Rattle.log_streams.proofs.MadeLemmas.{by-content, by-given, denied-at}
use Rattle.log_streams.proofs.side_by_side_logs.made_of_logs.Goals as goal

pub returns-in_default : goal.returns-in_default
returns-in_default g c =
    let makes = g.T.LogTask.Makes c.args.task.now c.args.program.now in
    let illegal = g.T.LogTask.MakesOfIllegal c.args.task.now c.args.program.now in
    let content = g.F.Files.content c.args.files.now in
    let gives = g.F.Files.Gives c.args.files.now in
    let program = c.args.program.now in
    let none = c.none_made.ensures in
    let made = c.none_made.result.made.items in record {
      made = none-made-of c.args.paths.now _ none.fault
          (λ path. IsMadeOf makes illegal (content path) program c.args.most) (λ path hart. inl refl) made none.none none.all;
      given = none-made-of c.args.paths.now _ none.fault
          (λ path. IsMadeOfGiven makes illegal (gives path) program c.args.most) (λ path hart. inl refl) made none.none
          none.all;
      refused = none-refused c.args.paths.now _ none.fault (g.T.LogTask.MayRefuse c.args.task.now);
    }

pub returns-in_default-by_place : goal.returns-in_default-by_place
returns-in_default-by_place g c =
    let makes = g.T.LogTask.Makes c.args.task.now c.args.program.now in
    let illegal = g.T.LogTask.MakesOfIllegal c.args.task.now c.args.program.now in
    let content = g.F.Files.content c.args.files.now in
    let gives = g.F.Files.Gives c.args.files.now in
    let program = c.args.program.now in
    let none = c.none_made-in_default-by_place.ensures in
    let made = c.none_made-in_default-by_place.result.made.items in record {
      made = none-made-of c.args.paths.now _ none.fault
          (λ path. IsMadeOf makes illegal (content path) program c.args.most) (λ path hart. inl refl) made none.none none.all;
      given = none-made-of c.args.paths.now _ none.fault
          (λ path. IsMadeOfGiven makes illegal (gives path) program c.args.most) (λ path hart. inl refl) made none.none
          none.all;
      refused = none-refused c.args.paths.now _ none.fault (g.T.LogTask.MayRefuse c.args.task.now);
    }

pub returns-in-Ok-take_made : goal.returns-in-Ok-take_made
returns-in-Ok-take_made g c =
    let makes = g.T.LogTask.Makes c.args.task.now c.args.program.now in
    let illegal = g.T.LogTask.MakesOfIllegal c.args.task.now c.args.program.now in
    let content = g.F.Files.content c.args.files.now in
    let gives = g.F.Files.Gives c.args.files.now in
    let program = c.args.program.now in
    let paths = c.args.paths.now in
    let made = c.take_made.new.made.items in
    let all = made-of-all (IsMadeAt makes illegal content gives program c.args.most)
    (denied-at makes illegal content gives program c.args.most) (g.T.LogTask.MayRefuse c.args.task.now) paths
    c.in-Ok-by_place.all.items (search rules) c.in-Ok-by_place.ensures.allowed made c.in-Ok-take_made.ensures in record {
      made = by-content makes illegal content gives program c.args.most paths made _ all;
      given = by-given makes illegal content gives program c.args.most paths made _ all;
      refused = tt;
    }

pub returns : goal.returns
returns g c =
    let makes = g.T.LogTask.Makes c.args.task.now c.args.program.now in
    let illegal = g.T.LogTask.MakesOfIllegal c.args.task.now c.args.program.now in
    let content = g.F.Files.content c.args.files.now in
    let gives = g.F.Files.Gives c.args.files.now in
    let program = c.args.program.now in
    let paths = c.args.paths.now in
    let made = c.take_made.new.made.items in
    let there = c.in-Ok-by_place.all.items in
    let front = made-up-to (IsMadeAt makes illegal content gives program c.args.most)
    (denied-at makes illegal content gives program c.args.most) (g.T.LogTask.MayRefuse c.args.task.now) paths there
    (search rules) c.in-Ok-by_place.ensures.allowed made _ c.in-Err.ensures
    (at-index paths (length made) c.len-in-Err.result _ (search rules)
    (has-next there made c.in-Err.why (length paths) (search rules) c.in-Err.ensures)) in record {
      made = by-content makes illegal content gives program c.args.most paths made _ front;
      given = by-given makes illegal content gives program c.args.most paths made _ front;
      refused = may-stop (IsMadeAt makes illegal content gives program c.args.most)
          (denied-at makes illegal content gives program c.args.most) (g.T.LogTask.MayRefuse c.args.task.now) paths there
          (search rules) c.in-Ok-by_place.ensures.allowed made c.in-Err.why c.in-Err.ensures;
    }
