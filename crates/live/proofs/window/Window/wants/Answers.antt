-- What is not wanted is none of the messages that are read next: by a lemma on what is held, which no tactic finds.
use Rattle.std.proofs.Common.{◌∙◌, sym}
use Rattle.live.proofs.Views.{unwanted, wanted_by}
use Rattle.live.proofs.window.Window.wants.Goals as goal

pub returns-clause-wanted : goal.returns-clause-wanted
returns-clause-wanted g c = λ sent came front holds.
    c.wants_by.ensures ∙ wanted_by sent came front c.args.self.now holds c.args.hart c.args.number

pub returns-clause-settled : goal.returns-clause-settled
returns-clause-settled g c = λ sent came more front holds turn is.
    unwanted sent came front c.args.self.now holds c.args.hart c.args.number more turn
    (sym (c.wants_by.ensures ∙ wanted_by sent came front c.args.self.now holds c.args.hart c.args.number) ∙ is)
