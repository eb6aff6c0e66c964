-- A program as a function from addresses to instructions.
use Rattle.std.specs.Prelude.{◌≡◌, ◌+◌, ◌%◌, ◌^◌, ◌<◌, ◌≤◌, ℕ, Option, Some}
use Rattle.rvclass.specs.declared.class.Class.{Class}

-- An instruction's class and its length in bytes.
abbrev pub Word : Type 0
Word = Class × ℕ

-- The instruction at each address, or none where there is no complete one.
abbrev pub Words : Type 0
Words = ℕ → Option Word

-- The instructions of every program are at even addresses, have at least 2 bytes, and end below 2^64.
pub record IsProgram (words : Words) : Type 0 where
  pub even : (addr : ℕ) (w : Word) → words addr ≡ Some w → addr % 2 ≡ 0
  pub long : (addr : ℕ) (w : Word) → words addr ≡ Some w → 2 ≤ w.1
  pub below : (addr : ℕ) (w : Word) → words addr ≡ Some w → addr + w.1 < 2 ^ 64

-- Every instruction has a place below this number, and a higher place than each instruction at a lower address.
pub record LiesIn (words : Words) (place : ℕ → ℕ) (half : ℕ) : Type 0 where
  pub below : (addr : ℕ) (w : Word) → words addr ≡ Some w → place addr < half
  pub rising : (addr other : ℕ) (w v : Word) → words addr ≡ Some w → words other ≡ Some v → addr < other →
      place addr < place other
