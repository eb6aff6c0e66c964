-- Numbers are all 0 where `|` of them is.
use Rattle.std.proofs.Common.{◌≡◌, ℕ, ◌==◌, ◌&&◌, bit_or, ap, arith}
use Prim.Native.Nat.{zero, suc}
use Rattle.std.specs.Int.Bits.{or_zero_l}
use Rattle.std.proofs.lemmas.Nat.{le_or_l}

pub none_set : (a b : ℕ) → (bit_or a b == 0) ≡ ((a == 0) && (b == 0))
none_set zero b = ap (λ n. n == 0) (or_zero_l b)
none_set (suc a) b = let more = le_or_l (suc a) b in grind arith
