-- What `encode` prints, and how it ends.
use Rattle.std.specs.Prelude.{⊤, ◌≡◌, ◌+◌, ℕ, List, [], ◌∷◌, Option, Some, None, Result, Ok, length}
use Rattle.captures.specs.Messages.{messages_of_harts}
use Rattle.encoder.specs.Payloads.{payloads}
use Rattle.legalpath.specs.ProgramLog.{ProgramLog}
use Rattle.message.specs.Numbered.{messages_from}
use Rattle.message.specs.declared.message.Message.{Message}
use Rattle.payload.specs.declared.mode.Mode.{Mode}
use Rattle.stimulus.specs.Mixing.{mixed_by}
use Rattle.command_inputs.specs.declared.words.Encode.{Encode}
use Rattle.command_inputs.specs.FurtherPieces.{base_number}
use Rattle.command_inputs.specs.Finding.{After}
use Rattle.command_inputs.specs.Found.{IsBase}
use Rattle.command_inputs.specs.FoundLogs.{AreAskedLogsUpTo}
use Rattle.log_streams.specs.Known.{Content}
use Rattle.command_inputs.specs.Meaning.{writing_at_once}
use Rattle.command_inputs.specs.Printed.{First}
use Rattle.command_inputs.specs.declared.status.Status.TheVariants.{Whole}
use Rattle.log_commands.specs.Faults.{Fault, Meaning, Once, Printed}
use Rattle.log_commands.specs.Most.{most_of}
use Rattle.log_commands.specs.Parts.{all_harts, asked_part, first_hart, messages_text, most_logs, part_fault}

-- The messages of each log. The first is that of this hart.
abbrev pub messages_of_each : ℕ → Mode → ℕ → List ProgramLog → List (List Message)
messages_of_each period mode hart [] = []
messages_of_each period mode hart (log ∷ logs) =
    messages_from hart 0 (payloads period mode log) ∷ messages_of_each period mode (hart + 1) logs

-- The messages of legal logs: hart after hart, or mixed by a seed, where one is given. The first log is that of this
-- hart.
abbrev pub messages_in_order : Option ℕ → ℕ → Mode → ℕ → List ProgramLog → List Message
messages_in_order None period mode hart logs = messages_of_harts period mode hart logs
messages_in_order (Some seed) period mode hart logs = mixed_by seed (messages_of_each period mode hart logs)

-- The text of the messages of legal logs, in the order that is asked for: lines of hexadecimal, or a capture of the
-- version that is asked for, or a part of one. Where no count of all harts is given, it is the complete capture.
abbrev pub written : Encode → List ProgramLog → List ℕ
written asked logs =
    messages_text asked.hex asked.version asked.period asked.mode (first_hart asked.first)
    (all_harts asked.of (length logs))
    (messages_in_order asked.mixed asked.period asked.mode (first_hart asked.first) logs)

-- The messages of legal logs are written, and all is done.
abbrev pub WritesMessages : Encode → List ProgramLog → Printed → Type 0
WritesMessages asked logs printed = printed ≡ record { text = written asked logs; ended = Ok Whole }

-- It is found whether there is a part that is asked for.
abbrev pub IsPart : Encode → Result (Unit {0}) Fault → Type 0
IsPart asked found = found ≡ asked_part asked.version asked.first asked.of

-- It is found how many logs there may be.
abbrev pub IsMostLogs : Encode → Result ℕ Fault → Type 0
IsMostLogs asked found = found ≡ most_logs asked.version asked.first asked.of

-- The logs that are asked for, at most so many, are found.
abbrev pub AreLogsOf : Content → Encode → ℕ → Result (List ProgramLog) Fault → Type 0
AreLogsOf content asked most =
    AreAskedLogsUpTo (most_of asked.long) content most asked.program asked.logs.items

-- The logs of the part that is asked for are found. The part is looked at first, then the bases, the first hart, the
-- count of logs, the image with its further pieces, and each log.
abbrev pub ArePartLogs : Content → Encode → Result (List ProgramLog) Fault → Type 0
ArePartLogs content asked =
    After (IsPart asked) (λ part.
    After (IsBase asked.program) (λ base. After (IsMostLogs asked) (AreLogsOf content asked)))

-- Where there is no fault, the messages of the logs are written.
abbrev pub Encodes : Content → Encode → Printed → Type 0
Encodes content asked = First (ArePartLogs content asked) (WritesMessages asked)

-- `encode` writes once it has the legal logs.
abbrev pub CanEncode : Content → Encode → Type 0
CanEncode content asked = Once (ArePartLogs content asked) (λ _. ⊤)

-- The fault that is found before any file is read.
abbrev pub encode_fault : Encode → Option Fault
encode_fault asked =
    part_fault (asked_part asked.version asked.first asked.of) (base_number asked.program)
    (most_logs asked.version asked.first asked.of) (length asked.logs.items)

-- What `encode` means.
abbrev pub encode_meaning : Encode → Meaning
encode_meaning asked =
    writing_at_once (encode_fault asked) (λ content. Encodes content asked) (λ content. CanEncode content asked)
