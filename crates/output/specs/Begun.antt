-- What was written to an output before it failed.
use Rattle.std.specs.Prelude.{◌≡◌, ℕ, ◌++◌, List, Option}
use Rattle.std.specs.Io.KnownBytes.{Appends}

-- A beginning of a text was appended.
pub record AppendsBeginning (whole : List ℕ) (old new : Option (List ℕ)) : Type 0 where
  pub text : List ℕ
  pub rest : List ℕ
  pub parted : whole ≡ text ++ rest
  pub appended : Appends old new text
