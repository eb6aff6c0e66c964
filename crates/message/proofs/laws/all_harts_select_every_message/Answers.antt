-- By induction over the messages.
use Rattle.message.proofs.Selecting.{all_selected}
use Rattle.message.proofs.laws.all_harts_select_every_message.Goals as goal

pub returns : goal.returns
returns c = all_selected
