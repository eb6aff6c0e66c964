-- What is left stays where what is held is moved: by the same bytes.
use Rattle.std.proofs.Common.{subst, sym}
use Rattle.live.specs.ReceivedLeft.{IsLeft}
use Rattle.live.proofs.received.Received.read.Goals as goal

pub returns-clause-reads : goal.returns-clause-reads
returns-clause-reads g c = λ rest left.
    c.read_on.ensures.reads rest
    (subst (λ o. IsLeft o (g.R.FileReader.left c.args.reader.now) rest) (sym c.make_place.ensures.same) left)
