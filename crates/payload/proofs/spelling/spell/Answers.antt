-- The search does not find that the bits above 128 do not reach the lowest 16 bytes.
use Rattle.std.proofs.Common.{◌-◌, ◌^◌, ◌≤◌, arith, ap, ◌∙◌}
use Rattle.std.proofs.Math.Nat.{pow-le-pow_right}
use Rattle.payload.specs.Bytes.{low_bytes}
use Rattle.payload.specs.Extension.{extended, fewest_bytes}
use Rattle.payload.proofs.ByteLists.{low_bytes-mod}
use Rattle.payload.proofs.spelling.spell.Goals as goal

pub byte_count-requires : goal.byte_count-requires
byte_count-requires c =
    let wide : 2 ^ (c.args.width - 1) ≤ 2 ^ 127 = pow-le-pow_right {n = 2} (omega arith) {j = 127} (omega arith) in
    omega arith

pub returns : goal.returns
returns c =
    c.of_low_bytes.ensures
    ∙ ap (low_bytes c.byte_count.result) c.extended_of.ensures
    ∙ low_bytes-mod c.byte_count.result 128 (extended c.args.width c.args.n) (omega arith)
    ∙ ap (λ k. low_bytes k (extended c.args.width c.args.n))
    (c.byte_count.ensures.value ∙ ap fewest_bytes c.magnitude_of.ensures.value)
