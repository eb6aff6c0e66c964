-- How far the lines of a file are written as they come.
use Rattle.std.specs.Prelude.{◌≡◌, ◌⊎◌, ℕ, ◌++◌, List, Option, Some, None, Result, Ok, Err}
use Rattle.std.specs.Io.KnownBytes.{Appends, Keeps, prepend_known}
use Rattle.std.specs.Str.Lines.{lines}
use Rattle.output.specs.Begun.{AppendsBeginning}
use Rattle.captures.specs.Capture.{header_with}
use Rattle.captures.specs.Pass.{IsPassed, pass_bytes, text_pass}
use Rattle.captures.specs.Streamed.{skips_of, stop_of, streamed_bytes, streamed_faults}
use Rattle.captures.specs.Versions.{start_bytes}
use Rattle.captures.specs.declared.line_fault.LinesFault.{LinesFault}
use Rattle.captures.specs.declared.line_settings.Settings.{Settings}
use Rattle.log_streams.specs.Known.{Absent, Content, Known, Present, Unknown}
use Rattle.command_inputs.specs.Begun.{IsCutOf}
use Rattle.command_inputs.specs.Printed.{PrintsUnlessDenied}
use Rattle.command_inputs.specs.declared.fault.Fault.TheVariants as fault
use Rattle.command_inputs.specs.declared.status.Status.{Status}
use Rattle.command_inputs.specs.declared.words.Capture.{Capture}
use Rattle.path_commands.specs.Capturing.{CanRead, EndsLine, Streams, stream_end}
use Rattle.path_commands.specs.LineFaults.{Fault, lines_fault}
use Rattle.path_commands.specs.declared.streaming.Taken.{Taken}

-- Of a file these bytes were given and those left follow, where they are known.
abbrev pub IsReadTo : Known → List ℕ → Option (List ℕ) → Type 0
IsReadTo Unknown given left = Unit {0}
IsReadTo Absent given left = ⊥
IsReadTo (Present text) given left = Keeps (Some text) (prepend_known given left)

-- All lines of a text were passed, and their messages appended.
abbrev pub IsAllPassed : Capture → Settings → List ℕ → Taken → Option (List ℕ) → Option (List ℕ) → Type 0
IsAllPassed asked settings text taken old new =
    IsPassed {U = Unit {0}} (start_bytes settings.version (header_with settings 1)) (text_pass settings asked.skip text)
    (Ok tt) taken.passed old new

-- Of these bytes, which were given, the lines are passed but for what is held.
pub record HasTaken (asked : Capture) (settings : Settings) (given : List ℕ) (taken : Taken)
    (old new : Option (List ℕ)) : Type 0 where
  pub front : List ℕ
  pub parted : given ≡ front ++ taken.held.items
  pub ends : EndsLine front
  pub passed : IsAllPassed asked settings front taken old new

-- The fault is that allocation or the output failed, or that of a line.
abbrev pub IsStop : Capture → Settings → List ℕ → Fault → Option (List ℕ) → Option (List ℕ) → Type 0
IsStop asked settings text why old new = (why ≡ fault.Memory) ⊎ ((why ≡ fault.Output)
    ⊎ ((own : LinesFault) × (why ≡ lines_fault asked.lines own) × ((text_pass settings asked.skip text).stop ≡ Some own)
    × Appends old new (pass_bytes settings asked.skip text)))

-- A text was not passed to its end.
pub record HasStopped (asked : Capture) (settings : Settings) (text : List ℕ) (why : Fault) (old new : Option (List ℕ))
    : Type 0 where
  pub begun : AppendsBeginning (pass_bytes settings asked.skip text) old new
  pub stop : IsStop asked settings text why old new

-- More bytes were given: their lines are passed but for what is held, or it ended at this fault, whatever follows.
abbrev pub TakesMore : {U : Type 0} → Capture → Settings → List ℕ → Result U Fault → Taken → Option (List ℕ)
    → Option (List ℕ) → Type 0
TakesMore asked settings given (Ok done) taken old new = HasTaken asked settings given taken old new
TakesMore asked settings given (Err why) taken old new =
    (more : List ℕ) → HasStopped asked settings (given ++ more) why old new

-- All lines of a text were passed, or it ended at this fault.
abbrev pub HasPassedAll : {U : Type 0} → Capture → Settings → List ℕ → Result U Fault → Taken → Option (List ℕ)
    → Option (List ℕ) → Type 0
HasPassedAll asked settings text (Ok done) taken old new = IsAllPassed asked settings text taken old new
HasPassedAll asked settings text (Err why) taken old new = HasStopped asked settings text why old new

-- A text was passed to its end, and what is printed of it is written.
pub record IsFinished (asked : Capture) (settings : Settings) (text : List ℕ) (ended : Result Status Fault)
    (old new : Option (List ℕ)) : Type 0 where
  pub right : stop_of asked.skip (streamed_faults settings asked.skip text) ≡ None
  pub ends : ended ≡ stream_end asked.lines None (skips_of asked.skip (streamed_faults settings asked.skip text))
  pub written : Appends old new (streamed_bytes settings asked.skip text)

-- A text was passed to its end, or it ended at a fault.
abbrev pub HasEnded : Capture → Settings → List ℕ → Result Status Fault → Option (List ℕ) → Option (List ℕ) → Type 0
HasEnded asked settings text ended old new = IsFinished asked settings text ended old new
    ⊎ ((why : Fault) × (ended ≡ Err why) × HasStopped asked settings text why old new)

-- The lines of a file were written as they came, and it ended so.
pub record HasStreamed (content : Content) (asked : Capture) (settings : Settings) (ended : Result Status Fault)
    (old new : Option (List ℕ)) : Type 0 where
  pub printed : PrintsUnlessDenied (Streams content asked settings) (CanRead content asked) ended old new
  pub cut : IsCutOf (Streams content asked settings) old new
