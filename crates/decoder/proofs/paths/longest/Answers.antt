-- What every program keeps are laws of the crate of programs, which no search looks up.
use Rattle.std.proofs.Common.{ℕ, ◌*◌, ◌/◌, ap}
use Rattle.rvclass.proofs.WordsLemmas.{words_of-IsProgram, words_of-LiesIn}
use Rattle.decoder.proofs.paths.longest.Goals as goal

pub returns : goal.returns
returns c = record {
  value = ap (λ (n : ℕ). 32 * (n / 2)) c.byte_count.ensures.count;
  small = c.byte_count.ensures.kept.small;
  words = words_of-IsProgram c.args.program.now c.byte_count.ensures.kept;
  within = words_of-LiesIn c.args.program.now c.byte_count.ensures.kept;
}
