-- Text on its way to a writer.
use Rattle.std.specs.Prelude.{◌≡◌, ℕ, ◌++◌, List, Option}
use Rattle.std.specs.Io.KnownBytes.{Appends}

-- The bytes that a writer got and those that are still held are this text.
abbrev pub Split : Option (List ℕ) → Option (List ℕ) → List ℕ → List ℕ → Type 0
Split old new held text = (written : List ℕ) × Appends old new written × (written ++ held ≡ text)
