-- How the decoding of a capture ends.
use Rattle.std.specs.Prelude.{ℕ, ◌+◌, ◌&&◌, not, Bool, true, false, List, [], ◌∷◌, Option, Some, None, Result, Ok, Err}
use Rattle.std.specs.Prelude.{if◌then◌else◌}
use Rattle.captures.specs.declared.outcome.CaptureFault.{CaptureFault}
use Rattle.message.specs.Range.{selects}
use Rattle.message.specs.declared.range.HartRange.{HartRange}
use Rattle.capture_commands.specs.Faults.{Fault, capture_fault}
use Rattle.capture_commands.specs.declared.reason.CaptureReason.TheVariants.{Unclosed}
use Rattle.command_inputs.specs.declared.fault.Fault.TheVariants as fault
use Rattle.command_inputs.specs.declared.status.Status.{Status}
use Rattle.command_inputs.specs.declared.status.Status.TheVariants.{Whole}

-- The end by the flags of harts, from this hart on: all is done where each is closed, and else the fault names the
-- first hart that is not.
abbrev pub end_of_harts : ℕ → List Bool → Result Status Fault
end_of_harts hart [] = Ok Whole
end_of_harts hart (true ∷ closed) = end_of_harts (hart + 1) closed
end_of_harts hart (false ∷ closed) = Err (fault.Own (Unclosed hart))

-- The same by the flags of those of these harts alone.
abbrev pub end_of_harts_of : HartRange → ℕ → List Bool → Result Status Fault
end_of_harts_of range hart [] = Ok Whole
end_of_harts_of range hart (flag ∷ closed) =
    if selects range hart && not flag then Err (fault.Own (Unclosed hart)) else end_of_harts_of range (hart + 1) closed

-- The fault at which decoding stopped, if there is one, and else the end by the flags of these harts.
abbrev pub end_of_capture_of : HartRange → Option (ℕ × CaptureFault) → List Bool → Result Status Fault
end_of_capture_of range (Some stop) closed = Err (capture_fault stop.0 stop.1)
end_of_capture_of range None closed = end_of_harts_of range 0 closed
