-- That a byte stands below the last address is a lemma about pieces.
use Rattle.std.proofs.Common.{ap, ◌∙◌}
use Rattle.rvclass.proofs.PieceBytesLemmas.{byte_below}
use Rattle.rvclass.specs.FetchedBytes.{byte_at}
use Rattle.rvclass.specs.steps.Parts.{pieces_of}
use Rattle.rvclass.proofs.memory.Memory.byte_at.Goals as goal

pub returns-in-None-clause-below : goal.returns-in-None-clause-below
returns-in-None-clause-below g c =
    byte_below _ _ _ c.self.invariant.memory.each.1
    (c.byte_among.ensures ∙ ap (λ l. byte_at (pieces_of l) c.args.addr) c.parts_in.ensures)
