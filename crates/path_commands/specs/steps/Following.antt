-- How a run goes on while messages come.
use Rattle.std.specs.Prelude.{◌≡◌, ◌≢◌, ◌⊎◌, ⊤, ℕ, List, Option, Result, Ok, Err}
use Rattle.std.specs.Io.KnownBytes.{Appends}
use Rattle.log_streams.specs.Known.{Absent, Content, Known, MayLack}
use Rattle.command_inputs.specs.Begun.{IsCutOf}
use Rattle.command_inputs.specs.Faults.{Path}
use Rattle.command_inputs.specs.Printed.{PrintsUnlessDenied}
use Rattle.command_inputs.specs.declared.fault.Fault.TheVariants as fault
use Rattle.command_inputs.specs.declared.status.Status.{Status}
use Rattle.command_inputs.specs.declared.words.Audit.{Audit}
use Rattle.path_commands.specs.Faults.{Fault}
use Rattle.path_commands.specs.Followed.{Follows}

-- Some text was appended, or none.
abbrev pub AppendsSome : Option (List ℕ) → Option (List ℕ) → Type 0
AppendsSome old new = (text : List ℕ) × Appends old new text

-- A file was opened, so there may be one; or there may be none, or allocation failed.
abbrev pub IsStream : {U : Type 0} → Known → Path → Result U Fault → Type 0
IsStream file path (Ok stream) = file ≢ Absent
IsStream file path (Err why) = (why ≡ fault.Memory) ⊎ ((why ≡ fault.Unreadable path) × MayLack file)

-- Both files were read as they came, and it ended so.
pub record HasFollowed (content : Content) (asked : Audit) (ended : Result Status Fault) (old new : Option (List ℕ))
    : Type 0 where
  pub printed : PrintsUnlessDenied (Follows content asked) ⊤ ended old new
  pub cut : IsCutOf (Follows content asked) old new
