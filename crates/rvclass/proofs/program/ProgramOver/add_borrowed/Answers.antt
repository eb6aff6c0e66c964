-- A program with one more piece is one, by a lemma.
use Rattle.rvclass.proofs.AddedLemmas.{still_image}
use Rattle.rvclass.proofs.program.ProgramOver.add_borrowed.Goals as goal

pub invariant_of-self : goal.invariant_of-self
invariant_of-self c =
    still_image c.self.inside.memory _ c.args.base c.args.bytes.now c.add_borrowed.result c.self.invariant c.add_borrowed.ensures.added
    c.add_borrowed.ensures.same
