-- The harts of frames are below the count of a header: by a lemma on spans, which no tactic finds.
use Rattle.frames.proofs.ChosenSpans.{all_chosen}
use Rattle.frames.proofs.laws.all_harts_choose_every_span.Goals as goal

pub returns : goal.returns
returns c = all_chosen
