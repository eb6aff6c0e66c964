-- Whether a capture has any of the harts that are asked for.
use Rattle.std.specs.Prelude.{ℕ, ◌≡◌, List, Option, Result, Ok, Err, if◌then◌else◌}
use Rattle.message.specs.Range.{has_below}
use Rattle.message.specs.declared.range.HartRange.{HartRange}
use Rattle.message.specs.declared.fault.MessageFault.{MessageFault}
use Rattle.message.specs.declared.header.Header.{Header}
use Rattle.frames.specs.Start.{IsStart, known_harts}
use Rattle.command_inputs.specs.declared.fault.Fault.TheVariants as fault
use Rattle.capture_commands.specs.Faults.{Fault}
use Rattle.capture_commands.specs.declared.reason.CaptureReason.TheVariants.{NoHart}

-- One of these harts is below the count, or the fault that there is none.
abbrev pub hart_at : HartRange → ℕ → Result (Unit {0}) Fault
hart_at harts count = if has_below harts count then Ok tt else Err (fault.Own (NoHart harts))

-- Whether a capture has one of these harts is found: by its header's count; without a valid header any hart below 1,024
-- is one of it.
pub record HasHart (harts : HartRange) (bytes : List ℕ) (found : Result (Unit {0}) Fault) : Type 0 where
  pub header : Option Header
  pub why : Option MessageFault
  pub start : IsStart bytes header why
  pub is : found ≡ hart_at harts (known_harts header)
