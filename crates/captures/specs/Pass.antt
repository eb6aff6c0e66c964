-- What comes of lines that are passed after others.
use Rattle.std.specs.Prelude.{◌≡◌, ◌⊎◌, ℕ, ◌+◌, ◌++◌, if◌then◌else◌, Bool, List, [], ◌∷◌, replicate, Option, Some, None}
use Rattle.std.specs.Prelude.{Result, Ok, Err}
use Rattle.std.specs.Io.KnownBytes.{Appends}
use Rattle.std.specs.Str.Lines.{lines}
use Rattle.output.specs.Begun.{AppendsBeginning}
use Rattle.message.specs.Capture.{capture}
use Rattle.message.specs.declared.message.Message.{Message}
use Rattle.captures.specs.Capture.{header_with}
use Rattle.captures.specs.Line.{line_of}
use Rattle.captures.specs.Streamed.{Found, form_or, known_form, skips_of, stop_of, streamed_bytes, streamed_faults}
use Rattle.captures.specs.Versions.{start_bytes}
use Rattle.captures.specs.declared.line_fault.LineFault.{LineFault}
use Rattle.captures.specs.declared.line_fault.LinesFault.{LinesFault}
use Rattle.captures.specs.declared.line_fault.LinesFault.TheVariants as fault
use Rattle.captures.specs.declared.line_form.Form.{Form}
use Rattle.captures.specs.declared.capture_line.Line.{Line}
use Rattle.captures.specs.declared.line_settings.Settings.{Settings}
use Rattle.captures.specs.declared.passed_lines.PassedLines.{PassedLines}
use Rattle.captures.specs.steps.Passing.{counted, lowered, message_at}

-- The messages of the lines that are passed, what is kept after them, and the fault of the line that ends it, if one
-- does.
pub record Pass : Type 0 where
  pub messages : List Message
  pub passed : PassedLines
  pub stop : Option LinesFault

-- No line is passed yet; the form may be known.
abbrev pub no_lines : Option Form → PassedLines
no_lines form =
    record { form = form; counts = replicate 1024 0; lows = replicate 1024 0; lines = 0; skipped = 0 }

-- How many lines are passed that have a fault.
abbrev pub skipped_of : PassedLines → ℕ
skipped_of passed = passed.skipped

-- No more line is passed.
abbrev pub no_pass : PassedLines → Pass
no_pass passed = record { messages = []; passed = passed; stop = None }

-- These messages, and then those of a pass.
abbrev pub then_pass : List Message → Pass → Pass
then_pass messages later = record { messages = messages ++ later.messages; passed = later.passed; stop = later.stop }

-- What is kept after a line that is passed over, after one with a fault, and after one of this form that says this.
abbrev pub after_none : PassedLines → PassedLines
after_none passed = record passed { lines = passed.lines + 1 }

abbrev pub after_fault : PassedLines → PassedLines
after_fault passed = record passed { lines = passed.lines + 1; skipped = passed.skipped + 1 }

abbrev pub after_line : Option ℕ → Form → Line → Message → PassedLines → PassedLines
after_line numbers form line message passed = record {
  form = Some form;
  counts = counted passed.counts line;
  lows = lowered numbers passed.lows message;
  lines = passed.lines + 1;
  skipped = passed.skipped;
}

-- A line of this form says this, and then those after it are passed.
abbrev pub pass_said : Option ℕ → PassedLines → Form → Option Line → (PassedLines → Pass) → Pass
pass_said numbers passed form None later = later (after_none passed)
pass_said numbers passed form (Some line) later =
    then_pass (message_at numbers passed.counts passed.lows line ∷ [])
    (later (after_line numbers form line (message_at numbers passed.counts passed.lows line) passed))

-- A line has this fault: it is skipped, or ends it.
abbrev pub pass_fault : Bool → PassedLines → LineFault → (PassedLines → Pass) → Pass
pass_fault skip passed why later =
    if skip then later (after_fault passed)
    else record { messages = []; passed = passed; stop = Some (fault.Line (passed.lines + 1) why) }

-- This is found of a line of this form, and then those after it are passed.
abbrev pub pass_found : Option ℕ → Bool → PassedLines → Form → Found → (PassedLines → Pass) → Pass
pass_found numbers skip passed form (Ok said) later = pass_said numbers passed form said later
pass_found numbers skip passed form (Err why) later = pass_fault skip passed why later

-- Lines are passed after those of which this is kept.
abbrev pub pass : Settings → Bool → PassedLines → List (List ℕ) → Pass
pass settings skip passed [] = no_pass passed
pass settings skip passed (line ∷ lines) =
    pass_found settings.numbers skip passed (form_or passed.form line)
    (line_of settings (form_or passed.form line) line) (λ passed. pass settings skip passed lines)

-- The lines of a pass were passed, and these bytes and its messages appended; what is kept is that of the pass. Where
-- it ended at a fault, either the writer failed, and a prefix of these was appended, or it is the fault that ends the
-- pass.
abbrev pub IsPassed : {U : Type 0} → List ℕ → Pass → Result U LinesFault → PassedLines → Option (List ℕ)
    → Option (List ℕ) → Type 0
IsPassed start its (Ok done) passed old new =
    (its.stop ≡ None) × (passed ≡ its.passed) × Appends old new (start ++ capture its.messages)
IsPassed start its (Err why) passed old new =
    ((why ≡ fault.Write) × AppendsBeginning (start ++ capture its.messages) old new)
    ⊎ ((its.stop ≡ Some why) × (passed ≡ its.passed) × Appends old new (start ++ capture its.messages))

-- The lines of a text are passed, from its first on.
abbrev pub text_pass : Settings → Bool → List ℕ → Pass
text_pass settings skip text = pass settings skip (no_lines (known_form settings.numbers)) (lines text)

-- What a capture begins with, and the messages of the lines of a text that are passed.
abbrev pub pass_bytes : Settings → Bool → List ℕ → List ℕ
pass_bytes settings skip text =
    start_bytes settings.version (header_with settings 1) ++ capture (text_pass settings skip text).messages

-- A text whose lines are passed is one whose lines are written as they come: the same bytes are written, the same fault
-- ends it, and as many lines are skipped.
abbrev pub PassedLinesStream : Type 0
PassedLinesStream =
    (settings : Settings) (skip : Bool) (text : List ℕ)
    → (pass_bytes settings skip text ≡ streamed_bytes settings skip text)
    × ((text_pass settings skip text).stop ≡ stop_of skip (streamed_faults settings skip text))
    × (skipped_of (text_pass settings skip text).passed ≡ skips_of skip (streamed_faults settings skip text))

-- The lines of a text in two parts, the first of which ends with a line feed, are passed part by part, where no fault
-- ends the first.
abbrev pub PartsArePassed : Type 0
PartsArePassed =
    (settings : Settings) (skip : Bool) (passed : PassedLines) (front back : List ℕ)
    → (pass settings skip passed (lines (front ++ (10 ∷ [])))).stop ≡ None
    → pass settings skip passed (lines ((front ++ (10 ∷ [])) ++ back))
    ≡ then_pass (pass settings skip passed (lines (front ++ (10 ∷ [])))).messages
    (pass settings skip (pass settings skip passed (lines (front ++ (10 ∷ [])))).passed (lines back))
