-- What is written of a text's lines as they come, where what a capture begins with is known before them.
use Rattle.std.specs.Prelude.{◌≡◌, ℕ, ◌+◌, ◌++◌, if◌then◌else◌, Bool, true, false, List, [], ◌∷◌, length, Option, Some}
use Rattle.std.specs.Prelude.{None, Result, Ok, Err}
use Rattle.std.specs.Str.Lines.{lines}
use Rattle.message.specs.Capture.{capture}
use Rattle.message.specs.declared.header.Version.{Version}
use Rattle.message.specs.declared.header.Version.TheVariants.{One, Two}
use Rattle.captures.specs.Capture.{capture_of_text, header_with}
use Rattle.captures.specs.Line.{form_of_line, line_of}
use Rattle.captures.specs.Lines.{messages_of}
use Rattle.captures.specs.Versions.{start_bytes}
use Rattle.captures.specs.declared.line_fault.LineFault.{LineFault}
use Rattle.captures.specs.declared.line_fault.LinesFault.{LinesFault}
use Rattle.captures.specs.declared.line_fault.LinesFault.TheVariants as fault
use Rattle.captures.specs.declared.line_form.Form.{Form}
use Rattle.captures.specs.declared.line_form.Form.TheVariants.{Numbered}
use Rattle.captures.specs.declared.capture_line.Line.{Line}
use Rattle.captures.specs.declared.line_settings.Settings.{Settings}

-- What is found of a line: what it says, if it is not passed over, or its fault.
abbrev pub Found : Type 0
Found = Result (Option Line) LineFault

-- The form of a line: the one that is known, or else its own.
abbrev pub form_or : Option Form → List ℕ → Form
form_or None line = form_of_line line
form_or (Some form) line = form

-- The form that is known before the first line. Where a field counts so many numbers, each line has one.
abbrev pub known_form : Option ℕ → Option Form
known_form None = None
known_form (Some numbers) = Some Numbered

-- The form that is known after a line: that of the first line that says something.
abbrev pub known_after : Option Form → List ℕ → Found → Option Form
known_after known line (Ok (Some said)) = Some (form_or known line)
known_after known line found = known

-- This is found of a line, and then of those after it what is found with the form that is known then.
abbrev pub and_found : Option Form → List ℕ → Found → (Option Form → List Found) → List Found
and_found known line found later = found ∷ later (known_after known line found)

-- What is found of each line, where the form of the first may be known.
abbrev pub found_in : Settings → Option Form → List (List ℕ) → List Found
found_in settings known [] = []
found_in settings known (line ∷ lines) =
    and_found known line (line_of settings (form_or known line) line) (λ known. found_in settings known lines)

-- The lines after one are passed too: it has no fault, or lines with a fault are skipped.
abbrev pub goes_on : Bool → Found → Bool
goes_on skip (Err why) = skip
goes_on skip (Ok said) = true

-- The lines that are passed: all, or up to the first that has a fault, and with it.
abbrev pub passed_of : Bool → List Found → List Found
passed_of skip [] = []
passed_of skip (found ∷ later) = found ∷ (if goes_on skip found then passed_of skip later else [])

-- What a line says, and then what those after it say.
abbrev pub and_said : Found → List Line → List Line
and_said (Ok (Some line)) later = line ∷ later
and_said found later = later

-- What lines say.
abbrev pub said_in : List Found → List Line
said_in [] = []
said_in (found ∷ later) = and_said found (said_in later)

-- The fault of the line with this number, and then those of the lines after it.
abbrev pub and_fault : ℕ → Found → List LinesFault → List LinesFault
and_fault number (Err why) later = fault.Line number why ∷ later
and_fault number (Ok said) later = later

-- The faults of lines, of which the first has this number.
abbrev pub faults_in : ℕ → List Found → List LinesFault
faults_in number [] = []
faults_in number (found ∷ later) = and_fault number found (faults_in (number + 1) later)

-- The lines of a text that are passed. Lines are those of Rust's `str::lines`.
abbrev pub passed_in : Settings → Bool → List ℕ → List Found
passed_in settings skip text = passed_of skip (found_in settings (known_form settings.numbers) (lines text))

-- What is written of a text: what its capture begins with, and the messages of the lines that are passed.
abbrev pub streamed_bytes : Settings → Bool → List ℕ → List ℕ
streamed_bytes settings skip text =
    start_bytes settings.version (header_with settings 1)
    ++ capture (messages_of settings.numbers (said_in (passed_in settings skip text)))

-- The faults of the lines of a text that are passed, each with the number of its line, from 1.
abbrev pub streamed_faults : Settings → Bool → List ℕ → List LinesFault
streamed_faults settings skip text = faults_in 1 (passed_in settings skip text)

-- The fault at which it ends, if it does: the first one, where lines with a fault are not skipped.
abbrev pub stop_of : Bool → List LinesFault → Option LinesFault
stop_of true faults = None
stop_of false [] = None
stop_of false (why ∷ later) = Some why

-- How many lines are skipped.
abbrev pub skips_of : Bool → List LinesFault → ℕ
skips_of true faults = length faults
skips_of false faults = 0

-- What a capture begins with is known before its lines: nothing in version 1, and else the header, where the count of
-- harts is given.
abbrev pub HasKnownStart : Version → Option ℕ → Type 0
HasKnownStart One harts = Unit {0}
HasKnownStart Two None = ⊥
HasKnownStart Two (Some harts) = Unit {0}

-- Lines as they come, of which none has a fault, become the capture of their text.
abbrev pub LinesStreamTheCapture : Type 0
LinesStreamTheCapture =
    (settings : Settings) (skip : Bool) (text bytes : List ℕ) → HasKnownStart settings.version settings.harts
    → capture_of_text settings text ≡ Ok bytes
    → (streamed_bytes settings skip text ≡ bytes) × (streamed_faults settings skip text ≡ [])

-- Where a line has a fault, so that there is no capture, lines as they come have that fault first, and end at it if
-- lines with a fault are not skipped.
abbrev pub LinesStreamTheirFirstFault : Type 0
LinesStreamTheirFirstFault =
    (settings : Settings) (skip : Bool) (text : List ℕ) (why : LinesFault) → capture_of_text settings text ≡ Err why
    → stop_of false (streamed_faults settings skip text) ≡ Some why
