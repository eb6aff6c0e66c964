-- What `measure` prints, and how it ends.
use Rattle.std.specs.Prelude.{⊤, ◌≡◌, List, Ok, length}
use Rattle.legalpath.specs.ProgramLog.{ProgramLog}
use Rattle.captures.specs.Table.{measures_table}
use Rattle.message.specs.Version.{most_harts}
use Rattle.message.specs.declared.header.Version.TheVariants.{Two}
use Rattle.command_inputs.specs.declared.words.Measure.{Measure}
use Rattle.command_inputs.specs.FurtherPieces.{base_number}
use Rattle.command_inputs.specs.FoundLogs.{AreAskedLogsUpTo}
use Rattle.log_streams.specs.Known.{Content}
use Rattle.command_inputs.specs.Meaning.{writing_at_once}
use Rattle.command_inputs.specs.Order.{logs_fault}
use Rattle.command_inputs.specs.Printed.{First}
use Rattle.command_inputs.specs.declared.status.Status.TheVariants.{Whole}
use Rattle.log_commands.specs.Faults.{Meaning, Once, Printed}
use Rattle.log_commands.specs.Most.{most_of}

-- The table of the measures of legal logs is written, and all is done.
abbrev pub WritesTable : Measure → List ProgramLog → Printed → Type 0
WritesTable asked logs printed =
    printed ≡ record { text = measures_table asked.period asked.mode logs; ended = Ok Whole }

-- The bases are looked at first, then the count of logs, the image with its further pieces, and each log. Where there
-- is no fault, the table of the logs is written.
abbrev pub Measures : Content → Measure → Printed → Type 0
Measures content asked =
    First
    (AreAskedLogsUpTo (most_of asked.long) content (most_harts Two) asked.program asked.logs.items)
    (WritesTable asked)

-- `measure` writes once it has the legal logs.
abbrev pub CanMeasure : Content → Measure → Type 0
CanMeasure content asked =
    Once
    (AreAskedLogsUpTo (most_of asked.long) content (most_harts Two) asked.program asked.logs.items)
    (λ _. ⊤)

-- What `measure` means.
abbrev pub measure_meaning : Measure → Meaning
measure_meaning asked = writing_at_once
    (logs_fault (most_harts Two) (base_number asked.program) (length asked.logs.items))
    (λ content. Measures content asked) (λ content. CanMeasure content asked)
