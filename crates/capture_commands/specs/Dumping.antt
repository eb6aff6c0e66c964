-- What `dump` prints, and how it ends.
use Rattle.std.specs.Prelude.{⊤, ◌≡◌, ℕ, Bool, true, false, List, Option, Some, None, Result, Ok, Err}
use Rattle.captures.specs.Dump.{IsDumpOf}
use Rattle.captures.specs.declared.outcome.CaptureFault.TheVariants as capture
use Rattle.message.specs.declared.range.HartRange.{HartRange}
use Rattle.message.specs.declared.fault.MessageFault.{MessageFault}
use Rattle.frames.specs.Search.{IsSearchedOf}
use Rattle.command_inputs.specs.declared.words.Dump.{Dump}
use Rattle.command_inputs.specs.Found.{IsRead}
use Rattle.log_streams.specs.Known.{Content}
use Rattle.command_inputs.specs.Meaning.{writing_at_once}
use Rattle.command_inputs.specs.OnlyHarts.{IsOnly, asked_harts}
use Rattle.command_inputs.specs.Symbols.{AreSymbols}
use Rattle.command_inputs.specs.Order.{only_fault}
use Rattle.command_inputs.specs.Printed.{First}
use Rattle.capture_commands.specs.Faults.{Fault, Meaning, Once, Printed, capture_fault}
use Rattle.capture_commands.specs.OnlyHarts.{HasHart}
use Rattle.command_inputs.specs.declared.status.Status.{Status}
use Rattle.command_inputs.specs.declared.status.Status.TheVariants.{NotWhole, Whole}

-- The fault of the place where there is no complete message or no header, if there is such a place; else the end by
-- whether a payload is bad.
abbrev pub end_of_dump : Bool → Option (ℕ × MessageFault) → Result Status Fault
end_of_dump bad (Some stop) = Err (capture_fault stop.0 (capture.Message stop.1))
end_of_dump true None = Ok NotWhole
end_of_dump false None = Ok Whole

-- The text is the dump of what a capture has of these harts; or, where a search is asked for, what a search of it finds
-- of them. Addresses are named by these symbols, if they are given.
abbrev pub IsDumpAsked : Bool → Option (List ℕ) → HartRange → List ℕ → Bool → Option (ℕ × MessageFault) → List ℕ
    → Type 0
IsDumpAsked false symbols harts bytes = IsDumpOf symbols harts bytes
IsDumpAsked true symbols harts bytes = IsSearchedOf symbols harts bytes

-- The dump of a capture is written, by a search or not, and the run ends as the dump does.
pub record WritesDump (search : Bool) (symbols : Option (List ℕ)) (harts : HartRange) (bytes : List ℕ)
    (printed : Printed) : Type 0 where
  pub bad : Bool
  pub stop : Option (ℕ × MessageFault)
  pub dumped : IsDumpAsked search symbols harts bytes bad stop printed.text
  pub ended : printed.ended ≡ end_of_dump bad stop

-- The dump of a capture is written, where it has one of these harts.
abbrev pub WritesDumpOf : Bool → Option (List ℕ) → HartRange → List ℕ → Printed → Type 0
WritesDumpOf search symbols harts bytes = First (HasHart harts bytes) (λ _. WritesDump search symbols harts bytes)

-- The capture is read. Where there is no fault, its dump is written, with names by these symbols, if they are given.
abbrev pub DumpsNamed : Content → Dump → HartRange → Option (List ℕ) → Printed → Type 0
DumpsNamed content asked harts symbols = First (IsRead content asked.capture) (WritesDumpOf asked.search symbols harts)

-- The symbols are found, if they are given, and then the dump of what the capture has of these harts is written.
abbrev pub DumpsHarts : Content → Dump → HartRange → Printed → Type 0
DumpsHarts content asked harts = First (AreSymbols content asked.symbols) (DumpsNamed content asked harts)

-- The harts that are asked for are found, then the symbols, and then the dump of what the capture has of these harts is
-- written.
abbrev pub Dumps : Content → Dump → Printed → Type 0
Dumps content asked = First (IsOnly asked.only) (DumpsHarts content asked)

-- `dump` writes once it has the symbols and the capture, and that has one of these harts.
abbrev pub CanDumpNamed : Content → Dump → HartRange → Type 0
CanDumpNamed content asked harts =
    Once (IsRead content asked.capture) (λ bytes. Once (HasHart harts bytes) (λ _. ⊤))

abbrev pub CanDumpHarts : Content → Dump → HartRange → Type 0
CanDumpHarts content asked harts = Once (AreSymbols content asked.symbols) (λ _. CanDumpNamed content asked harts)

abbrev pub CanDump : Content → Dump → Type 0
CanDump content asked = Once (IsOnly asked.only) (CanDumpHarts content asked)

-- What `dump` means. Without the capture only the fault of an argument that is no range of harts is found.
abbrev pub dump_meaning : Dump → Meaning
dump_meaning asked =
    writing_at_once (only_fault (asked_harts asked.only)) (λ content. Dumps content asked)
    (λ content. CanDump content asked)
