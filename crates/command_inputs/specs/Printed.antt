-- What a run prints, and how it ends.
use Rattle.std.specs.Prelude.{◌≡◌, ◌⊎◌, ℕ, List, [], Option, Result, Ok, Err}
use Rattle.std.specs.Io.KnownBytes.{Appends}
use Rattle.command_inputs.specs.declared.fault.Fault.{Fault}
use Rattle.command_inputs.specs.declared.fault.Fault.TheVariants as fault
use Rattle.command_inputs.specs.declared.status.Status.{Status}

-- The text that a run writes, and the status or the fault that it ends with.
pub record Printed (W : Type 0) : Type 0 where
  pub text : List ℕ
  pub ended : Result Status (Fault W)

-- Nothing is written, and the run ends at this fault.
abbrev pub silent : {W : Type 0} → Fault W → Printed W
silent why = record { text = []; ended = Err why }

-- Where a fault was found, nothing is written, and the run ends at it. Else the run goes on from the value that was
-- found.
abbrev pub GoesOn : {W A : Type 0} → Result A (Fault W) → (A → Printed W → Type 0) → Printed W → Type 0
GoesOn (Err why) next printed = printed ≡ silent why
GoesOn (Ok value) next printed = next value printed

-- This is found first, and then the run goes on from it.
abbrev pub First : {W A : Type 0} → (Result A (Fault W) → Type 0) → (A → Printed W → Type 0) → Printed W → Type 0
First {W} {A} Finds next printed = (found : Result A (Fault W)) × Finds found × GoesOn found next printed

-- The run may print some text with this end, and that text was appended.
pub record IsPrinted {W : Type 0} (Prints : Printed W → Type 0) (ended : Result Status (Fault W))
    (old new : Option (List ℕ)) : Type 0 where
  pub text : List ℕ
  pub prints : Prints (record { text = text; ended = ended })
  pub appended : Appends old new text

-- The fault is that allocation failed, or that the output failed. The output can fail only once the run can write.
abbrev pub IsPrintingDenied : {W : Type 0} → Type 0 → Fault W → Type 0
IsPrintingDenied CanWrite why = (why ≡ fault.Memory) ⊎ ((why ≡ fault.Output) × CanWrite)

-- The run printed one of these texts and ended so. It may also have ended at a fault that denies printing: allocation
-- failed, or the output failed once the run could write.
abbrev pub PrintsUnlessDenied : {W : Type 0} → (Printed W → Type 0) → Type 0 → Result Status (Fault W)
    → Option (List ℕ) → Option (List ℕ) → Type 0
PrintsUnlessDenied Prints CanWrite (Ok status) old new = IsPrinted Prints (Ok status) old new
PrintsUnlessDenied Prints CanWrite (Err why) old new =
    IsPrintingDenied CanWrite why ⊎ IsPrinted Prints (Err why) old new
