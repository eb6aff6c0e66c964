-- What is written of lines that were checked is their capture.
use Rattle.std.proofs.Common.{◌≡◌, ◌≤◌, ◌<◌, ◌^◌, ◌++◌, ◌∙◌, ℕ, List, [], Option, Some, None, Result, Ok, Err}
use Rattle.std.proofs.Common.{IfSome, false, ap, subst, sym}
use Rattle.std.specs.Prelude.{unwrap_or}
use Rattle.std.specs.Str.Lines.{lines}
use Rattle.captures.specs.Versions.{MayStart, start_bytes}
use Rattle.message.specs.Capture.{capture}
use Rattle.message.specs.Version.{most_harts}
use Rattle.message.specs.declared.header.Version.{Version}
use Rattle.message.specs.declared.header.Version.TheVariants.{One, Two}
use Rattle.payload.specs.declared.mode.Mode.{Mode}
use Rattle.captures.specs.Capture.{capture_of_text, capture_or_fault, header_with}
use Rattle.captures.specs.Lines.{form_of, harts_up_to, lines_of, messages_after, messages_of}
use Rattle.captures.specs.declared.line_fault.LinesFault.{LinesFault}
use Rattle.captures.specs.declared.line_form.Form.{Form}
use Rattle.captures.specs.declared.capture_line.Line.{Line}
use Rattle.captures.specs.declared.line_settings.Settings.{Settings}
use Rattle.captures.specs.Pass.{Pass, no_lines, pass}
use Rattle.captures.specs.Streamed.{Found, found_in, stop_of}
use Rattle.captures.specs.steps.Passing.{checked_from}
use Rattle.captures.proofs.Counts.{Fits, IsSaid, agree_none, all_right, checked, pass_is, summary}

refused_by : (settings : Settings) (r : Result (List Line) LinesFault) (why : LinesFault) → summary 1 r ≡ Err why
    → capture_or_fault settings r ≡ Err why
refused_by settings (Ok lines) why is = cc
refused_by settings (Err fault) why is = cc

-- A pass ends at no fault, and its messages are those of what was written of lines that have so many harts.
pub record IsAccepted (settings : Settings) (harts : ℕ) (found : Result (List ℕ) LinesFault) (its : Pass) : Type 0 where
  pub right : its.stop ≡ None
  pub capture_is : found
      ≡ Ok (start_bytes settings.version (header_with settings harts) ++ capture its.messages)

no_count_of : (why : LinesFault) (harts : ℕ) → ◌≡◌ {A = Result ℕ LinesFault} (Err why) (Ok harts) → ⊥
no_count_of why harts is = cc

accepted_by : (settings : Settings) (form : Form) (r : Result (List Line) LinesFault) (harts : ℕ) (found : List Found)
    (its : Pass) → summary 1 r ≡ Ok harts → IsSaid false r 1 found
    → Fits settings.numbers false (no_lines (Some form)) [] found its
    → IsAccepted settings harts (capture_or_fault settings r) its
accepted_by settings form (Err why) harts found its is right fits = absurd (no_count_of why harts is)
accepted_by settings form (Ok said) harts found its is right fits =
    let count : harts_up_to said ≡ harts = cc in
    let messages = fits.messages ∙ ap (messages_after settings.numbers []) right.said_is in record {
      right = fits.stop ∙ ap (stop_of false) right.none;
      capture_is =
          ap (λ n. Ok (start_bytes settings.version (header_with settings n) ++ capture
          (messages_of settings.numbers said))) count
          ∙ ap (λ ms. Ok (start_bytes settings.version (header_with settings harts) ++ capture ms)) (sym messages);
    }

module _ (settings : Settings) (form : Form) (text : List ℕ) (formed : form ≡ form_of settings.numbers
    (lines text)) where
  same_check : checked_from settings form 1 1 (lines text) ≡ summary 1 (lines_of settings text)
  same_check =
      ap (λ f. checked_from settings f 1 1 (lines text)) formed
      ∙ checked settings (form_of settings.numbers (lines text)) 1 1 (lines text)

  -- A fault is the first of the lines.
  pub refused_text : (why : LinesFault) → checked_from settings form 1 1 (lines text) ≡ Err why
      → capture_of_text settings text ≡ Err why
  refused_text why is = refused_by settings (lines_of settings text) why (sym same_check ∙ is)

  -- Where there is none, the capture is what is written.
  pub accepted_text : (harts : ℕ) → checked_from settings form 1 1 (lines text) ≡ Ok harts
      → IsAccepted settings harts (capture_of_text settings text)
      (pass settings false (no_lines (Some form)) (lines text))
  accepted_text harts is =
      let own = form_of settings.numbers (lines text) in
      subst (λ f. IsAccepted settings harts (capture_of_text settings text)
      (pass settings false (no_lines (Some f)) (lines text))) (sym formed)
      (accepted_by settings own (lines_of settings text) harts (found_in settings (Some own) (lines text))
      (pass settings false (no_lines (Some own)) (lines text)) (sym same_check ∙ is)
      (all_right false settings own 1 (lines text))
      (pass_is settings false (lines text) (no_lines (Some own)) [] (agree_none settings.numbers)))

may_start_with : (version : Version) (mode : Mode) (period : ℕ) (asked : Option ℕ) (harts : ℕ) → 1 ≤ period
    → period < 2 ^ 16 → IfSome asked (λ n. (1 ≤ n) × (n ≤ most_harts version)) → 1 ≤ harts → harts ≤ 1024
    → MayStart version (record { mode = mode; period = period; harts = unwrap_or asked harts })
may_start_with One mode period asked harts some few right least most = tt
may_start_with Two mode period None harts some few right least most =
    record { some_period = some; period = few; some_harts = least; harts = most }
may_start_with Two mode period (Some n) harts some few right least most =
    record { some_period = some; period = few; some_harts = right.0; harts = right.1 }

-- The header is in range.
pub may_start : (settings : Settings) (harts : ℕ) → 1 ≤ settings.period → settings.period < 2 ^ 16
    → IfSome settings.harts (λ n. (1 ≤ n) × (n ≤ most_harts settings.version)) → 1 ≤ harts → harts ≤ 1024
    → MayStart settings.version (header_with settings harts)
may_start settings harts some few right least most =
    may_start_with settings.version settings.mode settings.period settings.harts harts some few right least most
