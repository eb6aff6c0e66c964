-- What is said of each program is said of this one.
use Rattle.rvclass.specs.Fetch.{words_of}
use Rattle.decoder.proofs.rest.Rest.after.Goals as goal

pub returns-in-One-clause-rest : goal.returns-in-One-clause-rest
returns-in-One-clause-rest g c = c.after_one.ensures.rest (words_of c.args.program.now)

pub returns-in-Two-clause-rest : goal.returns-in-Two-clause-rest
returns-in-Two-clause-rest g c = c.after_two.ensures.rest (words_of c.args.program.now)
