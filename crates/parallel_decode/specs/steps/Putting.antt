-- Text that is written.
use Rattle.std.specs.Prelude.{ℕ, ◌≡◌, ◌++◌, List, Option, Ok, Err, Result}
use Rattle.std.specs.Io.KnownBytes.{Appends}
use Rattle.retire.specs.declared.fault.WriteFault.{WriteFault}
use Rattle.parallel_decode.specs.Put.{IsPut}
use Rattle.parallel_decode.specs.declared.stretch.Plan.{Plan}
use Rattle.parallel_decode.specs.steps.Stretches.{HaveTextFrom}

-- A prefix of the text was written, and the rest is that of the stretches from this place on.
pub record Left (plan : Plan) (from : ℕ) (text : List ℕ) (old new : Option (List ℕ)) : Type 0 where
  pub written : List ℕ
  pub rest : List ℕ
  pub have : HaveTextFrom plan from rest
  pub appended : Appends old new written
  pub whole : text ≡ written ++ rest

-- The text was written up to the stretch at the place that is returned. Or writing failed, after a prefix.
abbrev pub IsPutUpTo : Plan → Result ℕ WriteFault → List ℕ → Option (List ℕ) → Option (List ℕ) → Type 0
IsPutUpTo plan (Ok at) text old new = Left plan at text old new
IsPutUpTo plan (Err why) text old new = IsPut (Err why) old new text

-- Where a prefix of a text was written up to the stretch at the place `from`, it goes on up to the one that is returned.
abbrev pub PutsOn : Plan → ℕ → Result ℕ WriteFault → Option (List ℕ) → Option (List ℕ) → Type 0
PutsOn plan from ended mid new =
    (text : List ℕ) (old : Option (List ℕ)) → Left plan from text old mid → IsPutUpTo plan ended text old new

-- So it goes on up to the end.
abbrev pub PutsRest : Plan → ℕ → Result Unit WriteFault → Option (List ℕ) → Option (List ℕ) → Type 0
PutsRest plan from ended mid new =
    (text : List ℕ) (old : Option (List ℕ)) → Left plan from text old mid → IsPut ended old new text
