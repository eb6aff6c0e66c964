-- The numbers of flags that are not set.
use Rattle.std.specs.Prelude.{ℕ, ◌+◌, Bool, true, false, List, [], ◌∷◌}

-- The numbers of flags that are not set, where this is the number of the first flag.
abbrev pub lost_in : ℕ → List Bool → List ℕ
lost_in number [] = []
lost_in number (true ∷ flags) = lost_in (number + 1) flags
lost_in number (false ∷ flags) = number ∷ lost_in (number + 1) flags
