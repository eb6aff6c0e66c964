-- A part's bounds are those of its piece.
use Rattle.std.proofs.Common.{◌+◌, ◌^◌, ◌<◌, length, sym, subst}
use Rattle.rvclass.proofs.PieceBytesLemmas.{bounds_at}
use Rattle.rvclass.specs.declared.part.Part.{Part}
use Rattle.rvclass.specs.steps.HeldBytes.{held_bytes}
use Rattle.rvclass.proofs.adding.overlap_any.Goals as goal

pub overlap_each-requires-clause-second : goal.overlap_each-requires-clause-second
overlap_each-requires-clause-second c =
    let part = c.part-item.result in
    let below = (bounds_at c.args.parts.now c.loop-part.part-index part c.requires.each c.loop-part-test.true).below in
    let here = subst (λ (p : Part). p.base + length (held_bytes p.bytes) < 2 ^ 64) (sym c.part-item.is) below in
    subst (λ l. part.base + length l < 2 ^ 64) (sym c.bytes.ensures) here
