-- A shift of 1 is a power of 2, and a mask of ones is a remainder: the answer says where to use which.
use Rattle.std.proofs.Common.{◌+◌, ◌-◌, ◌<◌, arith}
use Rattle.std.proofs.lemmas.Nat.{one_shl, and_mask, mod_below, pow_pos}
use Rattle.rvclass.proofs.bits.bits_of.Goals as goal

pub returns-clause-value : goal.returns-clause-value
returns-clause-value c =
    let short : c.args.high + 1 - c.args.low < 32 = omega arith in
    rw (one_shl (c.args.high + 1 - c.args.low) 32 short) (and_mask _ (c.args.high + 1 - c.args.low))

pub returns-clause-below : goal.returns-clause-below
returns-clause-below c =
    let short : c.args.high + 1 - c.args.low < 32 = omega arith in
    rw (one_shl (c.args.high + 1 - c.args.low) 32 short, and_mask _ (c.args.high + 1 - c.args.low))
    (mod_below _ _ (pow_pos (c.args.high + 1 - c.args.low)))
