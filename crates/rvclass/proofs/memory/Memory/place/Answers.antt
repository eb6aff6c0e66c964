-- What is kept when a piece is added is a lemma.
use Rattle.std.proofs.Common.{ap, length, subst, sym}
use Rattle.rvclass.proofs.PlacedLemmas.{kept_with}
use Rattle.rvclass.specs.Memory.{IsMemory, with_piece}
use Rattle.rvclass.specs.Piece.{piece_at}
use Rattle.rvclass.specs.steps.HeldBytes.{held_bytes}
use Rattle.rvclass.proofs.memory.Memory.place.Goals as goal

pub invariant_of-self : goal.invariant_of-self
invariant_of-self g c =
    kept_with _ _ _ _ _ _ _ _ _ _ c.self.invariant c.in-Ok.ensures.kept c.in-Ok.ensures.placed
    (subst (λ m. IsMemory (with_piece m (piece_at c.args.base (held_bytes c.args.bytes)))) (sym c.self.view_is)
    c.requires)
    c.min-self-inside.ensures (ap length c.bytes-length.ensures)
