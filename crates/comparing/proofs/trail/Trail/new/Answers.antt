-- No message was followed.
use Rattle.std.proofs.Common.{[], refl}
use Rattle.std.proofs.lemmas.List.Elements.{All-nil}
use Rattle.comparing.specs.Sources.{Step}
use Rattle.comparing.specs.steps.Following.{GoesOn}
use Rattle.std.specs.Prelude.{◌<◌}
use Rattle.comparing.proofs.trail.Trail.new.Goals as goal

pub returns-clause-none : goal.returns-clause-none
returns-clause-none c = λ words.
    GoesOn [] [] refl refl
    (record { have = tt; fewer = All-nil (λ (step : Step). step.1.rows < c.args.hart.row) })
    (c.new.ensures.stands words) refl refl
