-- The search does not find that the fill is the last byte's top bit, and so the bits that go on without end.
use Rattle.std.proofs.Common.{◌-◌, inl, inr, length, ◌∙◌, arith}
use Rattle.payload.proofs.NumbersOfBytes.{filled, whole_long, bytes_from_each}
use Rattle.payload.proofs.bits.Bits.read_long.Goals as goal
use Rattle.payload.proofs.bits.Bits.read_long.Goals.{then-bytes-lt128, else-bytes-lt128}

pub returns : goal.returns
returns c =
    whole_long c.args.bytes.now c.if-bytes-lt128.fill _ _ (omega arith) (omega arith)
    c.number_of_16.ensures c.number_of_2.ensures
    ∙ filled (length c.args.bytes.now - 1) c.if-bytes-lt128.fill c.args.bytes.now (omega arith) (omega arith)
    (bytes_from_each c.args.bytes.now (λ i. omega (arith, c.type_inv.bytes i)))
    (elim c.if-bytes-lt128.branch [
      | then-bytes-lt128 w ↦ inl (w.if-bytes-lt128.true, w.fill-is)
      | else-bytes-lt128 w ↦ inr (w.if-bytes-lt128.false, w.fill-is)
    ])
