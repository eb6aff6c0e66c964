-- The search does not join the copied bytes and the fill to the sum that `from_le_bytes` gives.
use Rattle.std.proofs.Common.{◌∙◌}
use Rattle.payload.proofs.NumbersOfBytes.{padded_16}
use Rattle.payload.proofs.bits.number_of_16.Goals as goal

pub returns : goal.returns
returns c =
    c.from_le_bytes.ensures ∙ padded_16 c.args.bytes.now c.copy_from_slice.new.self c.args.fill
    c.copy_from_slice.ensures.after c.requires
