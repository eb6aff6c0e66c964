-- What is found of a part before any file is read, and what is printed then.
use Rattle.std.specs.Prelude.{⊤, ℕ, Option, Some, None, Result, Ok, Err}
use Rattle.command_inputs.specs.FurtherPieces.{base_number}
use Rattle.command_inputs.specs.Printed.{First}
use Rattle.command_inputs.specs.declared.fault.Fault.TheVariants as fault
use Rattle.log_streams.specs.Known.{Content}
use Rattle.command_inputs.specs.declared.words.Encode.{Encode}
use Rattle.log_commands.specs.Encoding.{AreLogsOf, WritesMessages}
use Rattle.log_commands.specs.Faults.{Fault, Once, Printed}
use Rattle.log_commands.specs.Parts.{asked_part, most_logs}

-- How many logs there may be; but first the fault of what is asked for that is no part, or of a base that is no number.
abbrev pub limit_at : Result (Unit {0}) Fault → Option ℕ → Result ℕ Fault → Result ℕ Fault
limit_at (Err why) base most = Err why
limit_at (Ok part) None most = Err fault.Base
limit_at (Ok part) (Some base) most = most

-- The same of what is asked.
abbrev pub limit_of : Encode → Result ℕ Fault
limit_of asked =
    limit_at (asked_part asked.version asked.first asked.of) (base_number asked.program)
    (most_logs asked.version asked.first asked.of)

-- The bases, the count of logs, of at most so many, the image with its further pieces, and each log are looked at, and
-- then the messages of the logs are written.
abbrev pub EncodesUpTo : Content → Encode → ℕ → Printed → Type 0
EncodesUpTo content asked most = First (AreLogsOf content asked most) (WritesMessages asked)

-- It is written once the legal logs are there.
abbrev pub CanEncodeUpTo : Content → Encode → ℕ → Type 0
CanEncodeUpTo content asked most = Once (AreLogsOf content asked most) (λ _. ⊤)
