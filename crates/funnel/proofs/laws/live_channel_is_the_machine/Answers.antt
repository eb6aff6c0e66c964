-- Each clause is a lemma on lists of views, which no tactic finds.
use Rattle.funnel.proofs.LiveSteps.{live-lawful, new-live, hands_out-live, sends-live, takes-live}
use Rattle.funnel.proofs.laws.live_channel_is_the_machine.Goals as goal

pub returns-clause-lawful : goal.returns-clause-lawful
returns-clause-lawful c = λ queue views state kept live. live-lawful queue views state kept live

pub returns-clause-new : goal.returns-clause-new
returns-clause-new c = new-live

pub returns-clause-hands_out : goal.returns-clause-hands_out
returns-clause-hands_out c = λ queue views state pass made taken settled list before kept live is at.
    hands_out-live queue views state kept live pass before made taken settled list is at

pub returns-clause-sends : goal.returns-clause-sends
returns-clause-sends c = λ queue views state capacity pass message before after kept live room at sends kept-then.
    sends-live queue views state kept live capacity pass message room before after at sends kept-then

pub returns-clause-takes : goal.returns-clause-takes
returns-clause-takes c = λ queue views state pass message before after kept live at takes.
    takes-live queue views state pass before after message kept live at takes
