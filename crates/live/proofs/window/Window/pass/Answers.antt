-- The front went on: by a lemma on what is held, which no tactic finds.
use Rattle.std.proofs.Common.{◌+◌, ◌∙◌, subst, sym}
use Rattle.live.specs.Holds.{Holds}
use Rattle.live.proofs.Passing.{gives, passes}
use Rattle.live.proofs.window.Window.pass.Goals as goal

pub returns-clause-passed : goal.returns-clause-passed
returns-clause-passed g c = λ sent came front holds more.
    subst (Holds sent came (front + 1)) (sym c.go_on.ensures.passed) (passes sent came front c.args.self.now holds more)

pub returns-clause-given : goal.returns-clause-given
returns-clause-given g c = λ sent came front holds more.
    c.go_on.ensures.given ∙ gives sent came front c.args.self.now holds more
