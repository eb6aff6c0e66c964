-- That no skips lead nowhere else is a lemma about lists.
use Rattle.std.proofs.Common.{[], refl}
use Rattle.rvclass.specs.Fetch.{words_of}
use Rattle.decoder.proofs.AlongLines.{no_skips}
use Rattle.decoder.proofs.decoding.Decoder.feed.Goals as goal

pub invariant_of-paths : goal.invariant_of-paths
invariant_of-paths g c = record {
  bound = c.longest.ensures;
  numbered = refl;
  lead = no_skips (words_of c.args.program.now) [];
}
