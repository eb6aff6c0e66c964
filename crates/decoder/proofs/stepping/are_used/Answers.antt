-- That nothing is left of a list is an induction over the list.
use Rattle.decoder.proofs.OutcomesLeft.{is_empty-drop}
use Rattle.decoder.proofs.stepping.are_used.Goals as goal

pub returns : goal.returns
returns c = is_empty-drop c.args.course.now.outcomes c.args.course.now.count c.args.used c.requires.0
