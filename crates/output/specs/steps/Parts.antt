-- What a part of a text takes of the bytes that are written to it.
use Rattle.std.specs.Prelude.{◌≡◌, ℕ, ◌-◌, ◌++◌, List, length, take, drop}

-- The number of bytes to pass over counts down, and the bytes after those are taken as far as there is capacity.
pub record Takes (room passing : ℕ) (part bytes : List ℕ) (passing' : ℕ) (part' : List ℕ) : Type 0 where
  pub passed : passing' ≡ passing - length bytes
  pub taken : part' ≡ part ++ take (room - length part) (drop passing bytes)
