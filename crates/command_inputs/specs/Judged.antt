-- Logs that were read and checked.
use Rattle.std.specs.Prelude.{◌≡◌, ℕ, List, Option, Some, None, Ok}
use Rattle.log_streams.specs.Known.{Content}
use Rattle.legalpath.specs.FirstFault.{IsFirstFault}
use Rattle.legalpath.specs.Legal.{Legal}
use Rattle.legalpath.specs.declared.fault.PathFault.{PathFault}
use Rattle.retire.specs.declared.event.Event.{Event}
use Rattle.rvclass.specs.Fetch.{words_of}
use Rattle.rvclass.specs.Image.{Image}
use Rattle.rvclass.specs.Words.{Words}
use Rattle.command_inputs.specs.Faults.{Path}
use Rattle.command_inputs.specs.FoundLogs.{IsLogUpTo}

-- A log is legal, or it has this first illegal row.
abbrev pub IsVerdict : Words → List Event → Option PathFault → Type 0
IsVerdict words events None = Legal words events
IsVerdict words events (Some illegal) = IsFirstFault words events illegal

-- A log that was read and checked: its path, its events, and its first illegal row, if it has one.
pub record Judged : Type 0 where
  pub path : List ℕ
  pub events : List Event
  pub illegal : Option PathFault

-- The log at a path, of at most so many rows, was read, and this is its verdict by the program. There is no fault, so
-- that no reason of a subcommand's own plays a part.
pub record IsJudgedUpTo (rows : ℕ) (content : Content) (program : Image) (path : Path) (log : Judged) : Type 0 where
  pub named : log.path ≡ path.now
  pub read : IsLogUpTo {W = ⊥} rows content path (Ok log.events)
  pub verdict : IsVerdict (words_of program) log.events log.illegal
