-- The messages of harts' logs.
use Rattle.std.specs.Prelude.{ℕ, ◌+◌, List, [], ◌∷◌, ◌++◌}
use Rattle.legalpath.specs.ProgramLog.{ProgramLog}
use Rattle.payload.specs.declared.mode.Mode.{Mode}
use Rattle.message.specs.Numbered.{messages_from}
use Rattle.message.specs.declared.message.Message.{Message}
use Rattle.encoder.specs.Payloads.{payloads}

-- The messages of harts' logs, at this period and in this mode, one hart after the other. The first hart has this
-- number.
abbrev pub messages_of_harts : ℕ → Mode → ℕ → List ProgramLog → List Message
messages_of_harts period mode hart [] = []
messages_of_harts period mode hart (log ∷ logs) =
    messages_from hart 0 (payloads period mode log) ++ messages_of_harts period mode (hart + 1) logs
