-- Whether a capture has any of the harts that are asked for, where it is told how many harts one without a header has.
use Rattle.std.specs.Prelude.{ℕ, ◌≡◌, List, Option, Result, max}
use Rattle.message.specs.declared.range.HartRange.{HartRange}
use Rattle.message.specs.declared.fault.MessageFault.{MessageFault}
use Rattle.message.specs.declared.header.Header.{Header}
use Rattle.frames.specs.Start.{IsStart}
use Rattle.capture_commands.specs.Faults.{Fault}
use Rattle.capture_commands.specs.OnlyHarts.{hart_at}
use Rattle.capture_commands.specs.Pieces.{harts_counted}

-- Whether a capture has one of these harts is found: by its header's count; without a valid header it has any hart
-- below this count. Hart 0 is one of any capture.
pub record HasHartBelow (count : ℕ) (harts : HartRange) (bytes : List ℕ) (found : Result (Unit {0}) Fault)
    : Type 0 where
  pub header : Option Header
  pub why : Option MessageFault
  pub start : IsStart bytes header why
  pub is : found ≡ hart_at harts (max (harts_counted count header) 1)
