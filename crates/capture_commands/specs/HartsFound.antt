-- Whether a capture that may be damaged has any of the harts that are asked for.
use Rattle.std.specs.Prelude.{ℕ, ◌≡◌, List, Option, Result, max}
use Rattle.message.specs.declared.range.HartRange.{HartRange}
use Rattle.message.specs.declared.fault.MessageFault.{MessageFault}
use Rattle.message.specs.declared.header.Header.{Header}
use Rattle.frames.specs.Harts.{harts_counted}
use Rattle.frames.specs.Start.{IsStart}
use Rattle.capture_commands.specs.Faults.{Fault}
use Rattle.capture_commands.specs.OnlyHarts.{hart_at}

-- Whether a capture has one of these harts is found. As many are counted as its header says; without a valid header as
-- many as are asked for, if a count is; else up to the highest hart of a frame. Hart 0 is one of any capture.
pub record HasHartFound (asked : Option ℕ) (only : HartRange) (bytes : List ℕ) (found : Result (Unit {0}) Fault)
    : Type 0 where
  pub header : Option Header
  pub why : Option MessageFault
  pub start : IsStart bytes header why
  pub is : found ≡ hart_at only (max (harts_counted asked header bytes) 1)
