-- What the tests leave is a memory, by a lemma.
use Rattle.std.proofs.Common.{◌+◌, ◌∙◌, ap, sym, arith, length, max, min, nat_lt}
use Rattle.rvclass.proofs.PlacedLemmas.{memory_with, pieces_length}
use Rattle.rvclass.specs.Memory.{overlaps}
use Rattle.rvclass.specs.Piece.{piece_at}
use Rattle.rvclass.specs.steps.Kept.{others_of}
use Rattle.rvclass.specs.steps.Parts.{pieces_of}
use Rattle.rvclass.proofs.memory.Memory.allow.Goals as goal

pub returns-clause-memory : goal.returns-clause-memory
returns-clause-memory g c =
    let m = c.self.inside in
    let base = c.args.base in
    let bytes = c.args.bytes.now in
    let all = c.self.invariant.all in
    let small = c.self.invariant.memory.small in
    let room = c.if-self-bytes.false in
    let few = c.if-parts_in-gt-MAX_PIECES.false in
    let parts = ap length c.parts_in-2.ensures in
    let long = pieces_length (others_of m.others) in
    rw (← c.self.view_is)
    (memory_with _ _ _ c.self.invariant.memory c.in_ok-windows_of.ensures.memory.1
    (ap (λ l. nat_lt (max base m.base) (min (base + length bytes) (m.base + length l))) (sym c.bytes.ensures)
    ∙ sym c.overlap_each.ensures ∙ c.if-overlap_each.false)
    (ap (λ l. overlaps (piece_at base bytes) (pieces_of l)) (sym c.parts_in.ensures) ∙ sym c.overlap_any.ensures
    ∙ c.if-overlap_any.false)
    (omega arith) (omega arith))
