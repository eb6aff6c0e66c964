-- A log with the program that it ran.
use Rattle.std.specs.Prelude.{List}
use Rattle.retire.specs.Log.{most_rows}
use Rattle.retire.specs.declared.event.Event.{Event}
use Rattle.rvclass.specs.Image.{Image}
use Rattle.legalpath.specs.LegalUpTo.{IsLegalUpTo}

-- A program's image, and a log's events.
pub record ProgramLog : Type 0 where
  pub program : Image
  pub events : List Event

-- The log of these events, with this program.
abbrev pub program_log : Image → List Event → ProgramLog
program_log program events = record { program = program; events = events }

-- The log is legal for its program and has at most 2^24 events, as `IsLegalUpTo` has it.
abbrev pub IsLegalLog : ProgramLog → Type 0
IsLegalLog log = IsLegalUpTo most_rows log.program log.events
