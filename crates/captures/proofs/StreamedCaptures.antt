-- Lines as they come become the capture of their text, where no line has a fault, and else end at the first one.
use Rattle.std.proofs.Common.{◌≡◌, ◌++◌, ◌∷◌, ◌∙◌, ap, arith, refl, ℕ, Bool, List, [], Option, Some, None, Result, Ok}
use Rattle.std.proofs.Common.{Err, false}
use Rattle.std.specs.Prelude.{unwrap_or}
use Rattle.std.specs.Str.Lines.{lines}
use Rattle.captures.specs.Capture.{capture_of_text, capture_or_fault, header_with}
use Rattle.captures.specs.Lines.{harts_up_to, lines_of, messages_of}
use Rattle.captures.specs.Pass.{no_lines, pass, pass_bytes, skipped_of, text_pass, then_pass}
use Rattle.captures.specs.Streamed.{Found, HasKnownStart, faults_in, found_in, known_form, passed_of, said_in}
use Rattle.captures.specs.Streamed.{skips_of, stop_of, streamed_bytes, streamed_faults}
use Rattle.captures.specs.Versions.{start_bytes}
use Rattle.captures.specs.declared.line_fault.LinesFault.{LinesFault}
use Rattle.captures.specs.declared.capture_line.Line.{Line}
use Rattle.captures.specs.declared.line_settings.Settings.{Settings}
use Rattle.captures.specs.declared.passed_lines.PassedLines.{PassedLines}
use Rattle.message.specs.Capture.{capture}
use Rattle.message.specs.declared.header.Version.{Version}
use Rattle.message.specs.declared.header.Version.TheVariants.{One, Two}
use Rattle.payload.specs.declared.mode.Mode.{Mode}
use Rattle.captures.proofs.Counts.{Fits, IsSaid, agree_none, pass_is, text_right}
use Rattle.captures.proofs.LinesInParts.{lines_behind_feed}
use Rattle.captures.proofs.Passes.{goes_on, pass_parts}

same_start : (version : Version) (harts : Option ℕ) (mode : Mode) (period some other : ℕ) → HasKnownStart version harts
    → start_bytes version (record { mode = mode; period = period; harts = unwrap_or harts some })
    ≡ start_bytes version (record { mode = mode; period = period; harts = unwrap_or harts other })
same_start One harts mode period some other known = refl
same_start Two None mode period some other known = absurd known
same_start Two (Some harts) mode period some other known = refl

same_bytes : (one other : List ℕ) → ◌≡◌ {A = Result (List ℕ) LinesFault} (Ok one) (Ok other) → one ≡ other
same_bytes one other is = cc

no_bytes : (why : LinesFault) (bytes : List ℕ) → ◌≡◌ {A = Result (List ℕ) LinesFault} (Err why) (Ok bytes) → ⊥
no_bytes why bytes is = cc

streams : (settings : Settings) (skip : Bool) (r : Result (List Line) LinesFault) (found : List Found) (bytes : List ℕ)
    → HasKnownStart settings.version settings.harts → capture_or_fault settings r ≡ Ok bytes
    → IsSaid skip r 1 found
    → (start_bytes settings.version (header_with settings 1)
    ++ capture (messages_of settings.numbers (said_in (passed_of skip found))) ≡ bytes)
    × (faults_in 1 (passed_of skip found) ≡ [])
streams settings skip (Err why) found bytes known is right = absurd (no_bytes why bytes is)
streams settings skip (Ok said) found bytes known is right = (
  ap (λ said. start_bytes settings.version (header_with settings 1) ++ capture (messages_of settings.numbers said))
      right.said_is
      ∙ ap (λ start. start ++ capture (messages_of settings.numbers said))
      (same_start settings.version settings.harts settings.mode settings.period 1 (harts_up_to said) known)
      ∙ same_bytes (start_bytes settings.version (header_with settings (harts_up_to said))
      ++ capture (messages_of settings.numbers said)) bytes is,
  right.none,
)

pub lines_stream : (settings : Settings) (skip : Bool) (text bytes : List ℕ)
    → HasKnownStart settings.version settings.harts → capture_of_text settings text ≡ Ok bytes
    → (streamed_bytes settings skip text ≡ bytes) × (streamed_faults settings skip text ≡ [])
lines_stream settings skip text bytes known is =
    streams settings skip (lines_of settings text)
    (found_in settings (known_form settings.numbers) (lines text)) bytes known is (text_right skip settings text)

same_fault : (one other : LinesFault) → ◌≡◌ {A = Result (List ℕ) LinesFault} (Err one) (Err other) → one ≡ other
same_fault one other is = cc

never_whole : (bytes : List ℕ) (why : LinesFault) → ◌≡◌ {A = Result (List ℕ) LinesFault} (Ok bytes) (Err why) → ⊥
never_whole bytes why is = cc

first_fault : (settings : Settings) (skip : Bool) (r : Result (List Line) LinesFault) (found : List Found)
    (why : LinesFault) → capture_or_fault settings r ≡ Err why → IsSaid skip r 1 found
    → stop_of false (faults_in 1 (passed_of skip found)) ≡ Some why
first_fault settings skip (Ok said) found why is right = absurd (never_whole _ why is)
first_fault settings skip (Err own) found why is right = right ∙ ap (λ why. Some why) (same_fault own why is)

pub first_fault_streamed : (settings : Settings) (skip : Bool) (text : List ℕ) (why : LinesFault)
    → capture_of_text settings text ≡ Err why → stop_of false (streamed_faults settings skip text) ≡ Some why
first_fault_streamed settings skip text why is =
    first_fault settings skip (lines_of settings text)
    (found_in settings (known_form settings.numbers) (lines text)) why is (text_right skip settings text)

-- What is written of a text is what is written of the lines that are passed.
module _ (settings : Settings) (skip : Bool) (text : List ℕ) where
  fits : Fits settings.numbers skip (no_lines (known_form settings.numbers)) []
      (found_in settings (known_form settings.numbers) (lines text)) (text_pass settings skip text)
  fits =
      pass_is settings skip (lines text) (no_lines (known_form settings.numbers)) [] (agree_none settings.numbers)

  pub bytes_are : pass_bytes settings skip text ≡ streamed_bytes settings skip text
  bytes_are = ap (λ messages. start_bytes settings.version (header_with settings 1) ++ capture messages) fits.messages

  pub stop_is : (text_pass settings skip text).stop ≡ stop_of skip (streamed_faults settings skip text)
  stop_is = fits.stop

  pub skips_are : skipped_of (text_pass settings skip text).passed ≡ skips_of skip (streamed_faults settings skip text)
  skips_are = omega (arith, fits.skipped)

  pub passed_lines_stream : (pass_bytes settings skip text ≡ streamed_bytes settings skip text)
      × ((text_pass settings skip text).stop ≡ stop_of skip (streamed_faults settings skip text))
      × (skipped_of (text_pass settings skip text).passed ≡ skips_of skip (streamed_faults settings skip text))
  passed_lines_stream = (bytes_are, stop_is, skips_are)

pub parts_passed : (settings : Settings) (skip : Bool) (passed : PassedLines) (front back : List ℕ)
    → (pass settings skip passed (lines (front ++ (10 ∷ [])))).stop ≡ None
    → pass settings skip passed (lines ((front ++ (10 ∷ [])) ++ back))
    ≡ then_pass (pass settings skip passed (lines (front ++ (10 ∷ [])))).messages
    (pass settings skip (pass settings skip passed (lines (front ++ (10 ∷ [])))).passed (lines back))
parts_passed settings skip passed front back none =
    let first = pass settings skip passed (lines (front ++ (10 ∷ []))) in
    ap (pass settings skip passed) (lines_behind_feed front back)
    ∙ pass_parts settings skip (lines (front ++ (10 ∷ []))) (lines back) passed
    ∙ goes_on first.stop first (pass settings skip first.passed (lines back)) none
