-- That a piece ends below 2^64 is a lemma about images.
use Rattle.rvclass.proofs.ExtentLemmas.{extent_within}
use Rattle.rvclass.proofs.program.ProgramOver.extent.Goals as goal

pub returns-clause-within : goal.returns-clause-within
returns-clause-within c = extent_within c.self.inside.memory c.args.number _ c.self.invariant c.extent.ensures
