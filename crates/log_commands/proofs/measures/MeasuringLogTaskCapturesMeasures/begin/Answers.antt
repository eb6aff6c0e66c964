-- The prover does not choose the words of the program.
use Rattle.rvclass.specs.Fetch.{words_of}
use Rattle.log_commands.proofs.measures.MeasuringLogTaskCapturesMeasures.begin.Goals as goal

pub returns : goal.returns
returns c = c.new.ensures.none (words_of c.args.arg2.now)
