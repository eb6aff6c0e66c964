-- What the closure promises is the field of a fact on each place, which the prover does not open.
use Rattle.side_by_side.proofs.task.results.Goals as goal

pub returns-in-Ok-clause-each : goal.returns-in-Ok-clause-each
returns-in-Ok-clause-each g c place job result within = (c.in-Ok.ensures.each place result within).1.met job
