-- The low bits alone count: by a lemma on maps, which no tactic finds.
use Rattle.std.proofs.Common.{◌≡◌, ◌*◌, ◌%◌, ◌^◌, ◌≤◌, ◌∙◌, ap, arith}
use Rattle.std.proofs.Math.Nat.{pow-le-pow_right}
use Rattle.payload.specs.Outcomes.{outcomes_in_map}
use Rattle.ffi.proofs.LowBits.{outcomes_of_low}
use Rattle.ffi.proofs.numbers.outcomes_in.Goals as goal

pub returns : goal.returns
returns c =
    let count = c.min-count.result in
    let map = c.args.map in
    let few : count ≤ 31 = omega (arith, c.min-count.ensures) in
    let small : 2 ^ count ≤ 2 ^ 31 = pow-le-pow_right {n = 2} (omega arith) {j = 31} few in
    let power : 1 * 2 ^ count % 4294967296 ≡ 2 ^ count = omega (arith, small) in
    c.of_map.ensures
    ∙ ap (λ n. outcomes_in_map count (map % n)) power
    ∙ outcomes_of_low count map
    ∙ ap (λ n. outcomes_in_map n map) c.min-count.ensures
