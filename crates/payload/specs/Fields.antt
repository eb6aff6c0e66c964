-- Packets as lists of fields, and the number that a list of fields is.
use Rattle.std.specs.Prelude.{ℕ, ◌+◌, ◌*◌, ◌^◌, List, [], ◌∷◌}

-- A field: how many bits it takes, and its value.
pub record Field : Type 0 where
  pub width : ℕ
  pub value : ℕ

-- The field of this width with this value.
abbrev pub field : ℕ → ℕ → Field
field width value = record { width = width; value = value }

-- How many bits fields take together.
abbrev pub total : List Field → ℕ
total [] = 0
total (f ∷ fs) = f.width + total fs

-- The bits of fields as one number, the first field in the lowest bits.
abbrev pub joined : List Field → ℕ
joined [] = 0
joined (f ∷ fs) = f.value + 2 ^ f.width * joined fs
