-- What is said of a run, whichever subcommand it is of.
use Rattle.std.specs.Prelude.{ℕ, List, Option}
use Rattle.std.specs.Io.KnownBytes.{Keeps}
use Rattle.log_streams.specs.Known.{Content}
use Rattle.command_inputs.specs.Printed.{Printed}
use Rattle.command_inputs.specs.declared.fault.Fault.{Fault}

-- What a subcommand means, with what is asked of it: the first fault that is found without the files; then, by what is
-- known of the files, what it prints and how it ends, what it has found once it writes, what it may have written where
-- allocation fails, whether that may be a part of its text, and the texts of which it wrote nothing or a prefix however
-- it ends.
pub record Meaning (W : Type 0) : Type 1 where
  pub early : Option (Fault W)
  pub Prints : Content → Printed W → Type 0
  pub CanWrite : Content → Type 0
  pub Begins : Content → Option (List ℕ) → Option (List ℕ) → Type 0
  pub WritesInParts : Type 0
  pub Cuts : Content → Printed W → Type 0

-- The meaning of a subcommand that takes no more memory once it writes: with its early fault, what it prints, and what
-- it has found once it writes. Where allocation fails, it wrote nothing.
abbrev pub writing_at_once : {W : Type 0} → Option (Fault W) → (Content → Printed W → Type 0) → (Content → Type 0)
    → Meaning W
writing_at_once early Prints CanWrite = record {
  early = early;
  Prints = Prints;
  CanWrite = CanWrite;
  Begins = λ content old new. Keeps old new;
  WritesInParts = ⊥;
  Cuts = Prints;
}
