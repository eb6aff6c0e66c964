-- Text that is written.
use Rattle.std.specs.Prelude.{ℕ, ◌≡◌, List, Option, Ok, Err, Result}
use Rattle.std.specs.Io.KnownBytes.{Appends}
use Rattle.output.specs.Begun.{AppendsBeginning}
use Rattle.retire.specs.declared.fault.WriteFault.{WriteFault}
use Rattle.retire.specs.declared.fault.WriteFault.TheVariants as fault

-- The text was written. Or writing it failed, after a prefix.
abbrev pub IsPut : Result Unit WriteFault → Option (List ℕ) → Option (List ℕ) → List ℕ → Type 0
IsPut (Ok _) old new text = Appends old new text
IsPut (Err why) old new text = AppendsBeginning text old new × (why ≡ fault.Write)
