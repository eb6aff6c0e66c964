-- Numbers of a width that go on without end with copies of their top bit.
use Rattle.std.specs.Prelude.{ℕ, ◌+◌, ◌-◌, ◌*◌, ◌^◌, nat_lt, if◌then◌else◌}
use Rattle.std.specs.Int.{bit_at}
use Prim.Native.Nat.{zero, suc, min}

-- Bit i of a number of this width that goes on with copies of its top bit.
abbrev pub extended_bit : ℕ → ℕ → ℕ → ℕ
extended_bit width n i = bit_at n (min i (width - 1))

-- Such a number's lowest 144 bits, the most that a payload holds.
unfoldable pub extended : ℕ → ℕ → ℕ
extended width n = if nat_lt n (2 ^ (width - 1)) then n else n + (2 ^ 144 - 2 ^ width)

-- Such a number, with each bit turned where the top bit is 1: the copies of the top bit are then zeros.
unfoldable pub magnitude : ℕ → ℕ → ℕ
magnitude width n = if nat_lt n (2 ^ (width - 1)) then n else 2 ^ width - 1 - n

-- The first count of bytes, from this one on, whose bits below the top one hold a magnitude. At most so many more are
-- tried; where the last is reached, it is the answer.
unfoldable pub first_that_fits : ℕ → ℕ → ℕ → ℕ
first_that_fits zero count m = count
first_that_fits (suc more) count m =
    if nat_lt m (2 ^ (8 * count - 1)) then count else first_that_fits more (count + 1) m

-- The fewest bytes, of 1 to 18, whose bits below the top one hold a magnitude.
abbrev pub fewest_bytes : ℕ → ℕ
fewest_bytes m = first_that_fits 17 1 m
