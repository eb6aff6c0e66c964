-- The logs that are written.
use Rattle.std.specs.Prelude.{◌≡◌, ℕ, List, Option, length}
use Rattle.std.specs.Io.KnownBytes.{Appends}
use Rattle.output.specs.Begun.{AppendsBeginning}
use Rattle.retire.specs.LogText.{log_text}
use Rattle.retire.specs.declared.event.Event.{Event}
use Rattle.rvclass.specs.Image.{Image}
use Rattle.legalpath.specs.LegalUpTo.{IsLegalUpTo}
use Rattle.stimulus.specs.Walked.{hart_log}
use Rattle.stimulus.specs.declared.logging.Log.{Log}

-- The log that is asked for: the hart's first events, so many.
abbrev pub log_of : Image → Log → List Event
log_of program asked = hart_log program asked.mix asked.seed asked.hart asked.events

-- The text of the log that is asked for was appended. The log is legal for the program and has as many events as are
-- asked for.
pub record WritesLog (program : Image) (asked : Log) (old new : Option (List ℕ)) : Type 0 where
  pub legal : IsLegalUpTo asked.events program (log_of program asked)
  pub counted : length (log_of program asked) ≡ asked.events
  pub text : Appends old new (log_text (log_of program asked))

-- A beginning of the text of the log that is asked for was appended.
abbrev pub BeginsLog : Image → Log → Option (List ℕ) → Option (List ℕ) → Type 0
BeginsLog program asked old new = AppendsBeginning (log_text (log_of program asked)) old new
