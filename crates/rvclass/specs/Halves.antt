-- The places of two bytes in a memory, counted.
use Rattle.std.specs.Prelude.{ℕ, ◌+◌, ◌-◌, ◌/◌, [], ◌∷◌, length, min}
use Rattle.rvclass.specs.Memory.{Memory}

-- The number of complete halfwords of all pieces, each counted from its piece's base.
abbrev pub halves : Memory → ℕ
halves [] = 0
halves (p ∷ ps) = length p.bytes / 2 + halves ps

-- Of these, the number that end at or below an address.
abbrev pub halves_below : Memory → ℕ → ℕ
halves_below [] addr = 0
halves_below (p ∷ ps) addr = min (length p.bytes) (addr - p.base) / 2 + halves_below ps addr
