-- What a call reports of a dump.
use Rattle.std.specs.Prelude.{ℕ, ◌≡◌, Bool, List, Option, Some, None}
use Rattle.message.specs.declared.fault.MessageFault.{MessageFault}
use Rattle.captures.specs.Dump.{IsDump}
use Rattle.ffi.specs.Handed.{IsHandedOut}
use Rattle.ffi.specs.Numbers.{flag}
use Rattle.ffi.specs.Statuses.{message_status}
use Rattle.ffi.specs.declared.dumping.DumpEnd.{DumpEnd}
use Rattle.ffi.specs.declared.status.TheConstants.{DONE}

-- How a dump ends, in numbers.
abbrev pub dump_end : Bool → Option (ℕ × MessageFault) → DumpEnd
dump_end bad None = record { place = 0; fault = DONE; bad = flag bad }
dump_end bad (Some fault) = record { place = fault.0; fault = message_status fault.1; bad = flag bad }

-- A text is the dump of a capture, it was handed out, and it was reported how it ends.
pub record IsDumpHandedOut (capture : List ℕ) (status wanted : ℕ) (ended : DumpEnd) (old new : List ℕ) : Type 0 where
  pub text : List ℕ
  pub bad : Bool
  pub fault : Option (ℕ × MessageFault)
  pub dumped : IsDump capture bad fault text
  pub reported : ended ≡ dump_end bad fault
  pub handed : IsHandedOut text status wanted old new
