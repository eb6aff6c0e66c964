-- A message in view was taken: by a lemma on what is held, which no tactic finds.
use Rattle.std.proofs.Common.{◌∙◌, sym}
use Rattle.live.proofs.InView.{judges, takes_it}
use Rattle.live.proofs.window.Window.judge.Goals as goal

pub returns-in-At-clause-judged : goal.returns-in-At-clause-judged
returns-in-At-clause-judged g c = λ sent came front holds.
    c.judged_as.ensures
    ∙ judges sent came front c.args.self.now holds c.args.message.now c.in-At.place
    (sym (c.in-At.ensures.standing sent came front holds)) c.distance-ahead.result c.take.result c.distance-ahead.ensures
    c.take.ensures.finding

pub returns-in-At-clause-taken : goal.returns-in-At-clause-taken
returns-in-At-clause-taken g c = λ sent came front holds.
    takes_it sent came front c.args.self.now holds c.args.message.now c.in-At.place
    (sym (c.in-At.ensures.standing sent came front holds)) c.take.new.self c.take.ensures.taken
