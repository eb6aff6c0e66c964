-- What is passed line by line is what the lines say together.
use Rattle.std.proofs.Common.{◌≡◌, ◌<◌, ◌+◌, ◌∙◌, ℕ, List, [], ◌∷◌, ◌++◌, Option, Some, None, Result, Ok, Err}
use Rattle.std.proofs.Common.{◌≤◌, arith, ap, refl, subst, sym, get_or, length, length-append, inl, inr, replicate}
use Rattle.std.proofs.Common.{Bool, true, false, zero, suc}
use Rattle.std.specs.Prelude.{max}
use Rattle.std.specs.List.{fold}
use Rattle.std.proofs.lemmas.Bool.{cases_eq}
use Rattle.std.proofs.lemmas.List.{get_or-set_other, get_or-set_same, length-replicate, length-set}
use Rattle.std.proofs.lemmas.List.Sums.{fold_push}
use Rattle.message.proofs.OfHartLemmas.{of_hart-next, of_hart-other}
use Rattle.message.specs.OfHart.{of_hart}
use Rattle.message.specs.declared.message.Message.{Message}
use Rattle.std.specs.Prelude.{if◌then◌else◌}
use Rattle.std.specs.Str.Lines.{lines}
use Rattle.captures.specs.Line.{fields_of, form_of_line, is_passed_over, line_by, line_of, some_line}
use Rattle.captures.specs.Lines.{before, first_form, form_of, lines_from, lines_of, message_after, messages_after}
use Rattle.captures.specs.Lines.{with_line}
use Rattle.captures.specs.Number.{lowest_of, number_by}
use Rattle.captures.specs.declared.line_fault.LineFault.{LineFault}
use Rattle.captures.specs.declared.line_fault.LinesFault.{LinesFault}
use Rattle.captures.specs.declared.line_form.Form.{Form}
use Rattle.captures.specs.declared.line_form.Form.TheVariants.{Numbered}
use Rattle.captures.specs.declared.capture_line.Line.{Line}
use Rattle.captures.specs.declared.line_settings.Settings.{Settings}
use Rattle.captures.specs.Pass.{Pass, after_fault, after_line, after_none, pass, pass_fault, pass_found, then_pass}
use Rattle.captures.specs.Streamed.{Found, and_found, faults_in, form_or, found_in, known_form, passed_of, said_in}
use Rattle.captures.specs.Streamed.{skips_of, stop_of}
use Rattle.captures.specs.declared.passed_lines.PassedLines.{PassedLines}
use Rattle.captures.specs.steps.Passing.{checked_from, counted, harts_with, lowered, lowest_with, message_at, past}
use Rattle.captures.proofs.Known.{HasHartIfTold, line_known}

-- The count of harts up to the highest of what lines say, and of those before them, or their fault.
abbrev pub summary : ℕ → Result (List Line) LinesFault → Result ℕ LinesFault
summary harts (Ok lines) = Ok (fold (λ most (line : Line). max most (line.hart + 1)) harts lines)
summary harts (Err why) = Err why

past_one : (number harts : ℕ) (r : Result (Option Line) LineFault) (rest : Result (List Line) LinesFault)
    → past number r (summary (harts_with harts r) rest) ≡ summary harts (with_line number r rest)
past_one number harts (Err why) rest = refl
past_one number harts (Ok None) rest = refl
past_one number harts (Ok (Some line)) (Ok lines) = refl
past_one number harts (Ok (Some line)) (Err why) = refl

pub checked : (settings : Settings) (form : Form) (number harts : ℕ) (lines : List (List ℕ))
    → checked_from settings form number harts lines ≡ summary harts (lines_from settings form number lines)
checked settings form number harts [] = refl
checked settings form number harts (line ∷ lines) =
    let r = line_of settings form line in
    ap (past number r) (checked settings form (number + 1) (harts_with harts r) lines)
    ∙ past_one number harts r (lines_from settings form (number + 1) lines)

-- No hart has passed a line yet.
abbrev pub no_counts : List ℕ
no_counts = replicate 1024 0

no_count : (n hart : ℕ) → get_or (replicate n 0) hart 0 ≤ 0
no_count zero hart = omega arith
no_count (suc n) zero = omega arith
no_count (suc n) (suc hart) = no_count n hart

-- The counts, and the lowest numbers, are those of these messages.
pub record Agree (numbers : Option ℕ) (counts lows : List ℕ) (earlier : List Message) : Type 0 where
  pub long : length counts ≡ 1024
  pub lows_long : length lows ≡ 1024
  pub each : (hart : ℕ) → hart < 1024 → get_or counts hart 0 ≡ length (of_hart hart earlier)
  pub lowest : (hart : ℕ) → hart < 1024 → get_or lows hart 0 ≡ lowest_of numbers (of_hart hart earlier)

none_counted : (n hart : ℕ) → get_or {A = ℕ} (replicate n 0) hart 0 ≡ 0
none_counted n hart =
    let none = no_count n hart in
    omega (arith, none)

lowest_none : (numbers : Option ℕ) → 0 ≡ lowest_of numbers []
lowest_none None = refl
lowest_none (Some numbers) = omega arith

pub agree_none : (numbers : Option ℕ) → Agree numbers no_counts no_counts []
agree_none numbers = record {
  long = length-replicate {A = ℕ} 1024 0;
  lows_long = length-replicate {A = ℕ} 1024 0;
  each = λ hart known. none_counted 1024 hart;
  lowest = λ hart known. none_counted 1024 hart ∙ lowest_none numbers;
}

-- The lowest number with one message more.
lowest_more : (numbers : Option ℕ) (before : List Message) (message : Message)
    → lowest_with numbers (lowest_of numbers before) message.number ≡ lowest_of numbers (before ++ (message ∷ []))
lowest_more None before message = refl
lowest_more (Some numbers) before message =
    let next = fold_push (λ next (m : Message). max next (m.number + 1)) 0 before message in
    omega (arith, next)

module _ (numbers : Option ℕ) (counts lows : List ℕ) (earlier : List Message) (line : Line)
    (agree : Agree numbers counts lows earlier) (known : line.hart < 1024) where
  abbrev message : Message
  message = message_after numbers earlier line

  same_message : message_at numbers counts lows line ≡ message
  same_message =
      let with_number : ℕ → Message = λ number.
      record { hart = line.hart; number = number; payload = line.payload } in
      ap (λ count. with_number (number_by numbers count (get_or lows line.hart 0) line.number))
      (agree.each line.hart known)
      ∙ ap (λ lowest. with_number (number_by numbers (length (of_hart line.hart earlier)) lowest line.number))
      (agree.lowest line.hart known)

  own_count : get_or counts line.hart 0 + 1 ≡ length (of_hart line.hart (earlier ++ (message ∷ [])))
  own_count =
      let own = ap length (of_hart-next earlier message) in
      let more = length-append (of_hart line.hart earlier) (message ∷ []) in
      omega (arith, own, more, agree.each line.hart known)

  own_lowest : lowest_with numbers (get_or lows line.hart 0) message.number
      ≡ lowest_of numbers (of_hart line.hart (earlier ++ (message ∷ [])))
  own_lowest =
      ap (λ lowest. lowest_with numbers lowest message.number) (agree.lowest line.hart known)
      ∙ lowest_more numbers (of_hart line.hart earlier) message
      ∙ ap (lowest_of numbers) (sym (of_hart-next earlier message))

  count_of : (hart : ℕ) → hart < 1024
      → get_or (counted counts line) hart 0 ≡ length (of_hart hart (earlier ++ (message ∷ [])))
  count_of hart below = elim (cases_eq hart line.hart) [
    | inl same ↦
        let here = get_or-set_same counts line.hart (get_or counts line.hart 0 + 1) 0 (omega (arith, known, agree.long))
        in
        rw same (here ∙ own_count)
    | inr other ↦
        get_or-set_other counts line.hart hart (get_or counts line.hart 0 + 1) 0 other
        ∙ agree.each hart below
        ∙ ap length (sym (of_hart-other hart earlier message (λ e. other (sym e))))
  ]

  lowest_at : (hart : ℕ) → hart < 1024
      → get_or (lowered numbers lows message) hart 0 ≡ lowest_of numbers (of_hart hart (earlier ++ (message ∷ [])))
  lowest_at hart below =
      let new = lowest_with numbers (get_or lows line.hart 0) message.number in
      elim (cases_eq hart line.hart) [
        | inl same ↦
            let here = get_or-set_same lows line.hart new 0 (omega (arith, known, agree.lows_long)) in
            rw same (here ∙ own_lowest)
        | inr other ↦
            get_or-set_other lows line.hart hart new 0 other
            ∙ agree.lowest hart below
            ∙ ap (lowest_of numbers) (sym (of_hart-other hart earlier message (λ e. other (sym e))))
      ]

  agree_more : Agree numbers (counted counts line) (lowered numbers lows message) (earlier ++ (message ∷ []))
  agree_more = record {
    long = length-set counts line.hart (get_or counts line.hart 0 + 1) ∙ agree.long;
    lows_long =
        length-set lows line.hart (lowest_with numbers (get_or lows line.hart 0) message.number) ∙ agree.lows_long;
    each = count_of;
    lowest = lowest_at;
  }

-- The messages of a pass are those of the lines that it passes, after these messages, and so are its fault and the
-- count of lines that are skipped.
pub record Fits (numbers : Option ℕ) (skip : Bool) (passed : PassedLines) (earlier : List Message) (found : List Found)
    (its : Pass) : Type 0 where
  pub messages : its.messages ≡ messages_after numbers earlier (said_in (passed_of skip found))
  pub stop : its.stop ≡ stop_of skip (faults_in (passed.lines + 1) (passed_of skip found))
  pub skipped : its.passed.skipped
      ≡ passed.skipped + skips_of skip (faults_in (passed.lines + 1) (passed_of skip found))

module _ (numbers : Option ℕ) (line : List ℕ) (more : Option Form → List Found) (later : PassedLines → Pass) where
  faulty : (skip : Bool) (why : LineFault) (passed : PassedLines) (earlier : List Message)
      → Fits numbers skip (after_fault passed) earlier (more passed.form) (later (after_fault passed))
      → Fits numbers skip passed earlier (Err why ∷ more passed.form) (pass_fault skip passed why later)
  faulty true why passed earlier follows = record {
    messages = follows.messages;
    stop = follows.stop;
    skipped = omega (arith, follows.skipped);
  }
  faulty false why passed earlier follows = record { messages = refl; stop = refl; skipped = omega arith }

  module _ (skip : Bool) (passed : PassedLines) (earlier : List Message)
      (agree : Agree numbers passed.counts passed.lows earlier)
      (follows : (passed : PassedLines) (earlier : List Message) → Agree numbers passed.counts passed.lows earlier
      → Fits numbers skip passed earlier (more passed.form) (later passed)) where
    telling : (said : Line) → said.hart < 1024
        → Fits numbers skip passed earlier (Ok (Some said) ∷ more (Some (form_or passed.form line)))
        (pass_found numbers skip passed (form_or passed.form line) (Ok (Some said)) later)
    telling said known =
        let form = form_or passed.form line in
        let message = message_after numbers earlier said in
        let after = after_line numbers form said message passed in
        let next = follows after (earlier ++ (message ∷ []))
        (agree_more numbers passed.counts passed.lows earlier said agree known) in
        subst (λ m. Fits numbers skip passed earlier (Ok (Some said) ∷ more (Some form))
        (then_pass (m ∷ []) (later (after_line numbers form said m passed))))
        (sym (same_message numbers passed.counts passed.lows earlier said agree known))
        (record {
          messages = ap (λ ms. message ∷ ms) next.messages;
          stop = next.stop;
          skipped = next.skipped;
        })

    one_line : (found : Found) → HasHartIfTold 1024 found
        → Fits numbers skip passed earlier (and_found passed.form line found more)
        (pass_found numbers skip passed (form_or passed.form line) found later)
    one_line (Err why) known = faulty skip why passed earlier (follows (after_fault passed) earlier agree)
    one_line (Ok None) known =
        let next = follows (after_none passed) earlier agree in
        record { messages = next.messages; stop = next.stop; skipped = next.skipped }
    one_line (Ok (Some said)) known = telling said known

no_stop : (skip : Bool) → None ≡ stop_of skip []
no_stop true = refl
no_stop false = refl

no_skips : (skip : Bool) (count : ℕ) → count ≡ count + skips_of skip []
no_skips true count = omega arith
no_skips false count = omega arith

-- What comes of lines that are passed is what is found in them.
pub pass_is : (settings : Settings) (skip : Bool) (lines : List (List ℕ)) (passed : PassedLines)
    (earlier : List Message)
    → Agree settings.numbers passed.counts passed.lows earlier
    → Fits settings.numbers skip passed earlier (found_in settings passed.form lines) (pass settings skip passed lines)
pass_is settings skip [] passed earlier agree =
    record { messages = refl; stop = no_stop skip; skipped = no_skips skip passed.skipped }
pass_is settings skip (line ∷ lines) passed earlier agree =
    one_line settings.numbers line (λ known. found_in settings known lines) (λ passed. pass settings skip passed lines)
    skip passed earlier agree (λ passed earlier agree. pass_is settings skip lines passed earlier agree)
    (line_of settings (form_or passed.form line) line) (line_known settings (form_or passed.form line) line)

-- Lines that have no fault say this, whether lines with a fault are skipped or not.
pub record IsAllRight (skip : Bool) (said : List Line) (number : ℕ) (found : List Found) : Type 0 where
  pub said_is : said_in (passed_of skip found) ≡ said
  pub none : faults_in number (passed_of skip found) ≡ []

-- Lines say this; or this is the fault of the first that has one.
abbrev pub IsSaid : Bool → Result (List Line) LinesFault → ℕ → List Found → Type 0
IsSaid skip (Ok said) number found = IsAllRight skip said number found
IsSaid skip (Err why) number found = stop_of false (faults_in number (passed_of skip found)) ≡ Some why

module _ (skip : Bool) (number : ℕ) (line : List ℕ) (known : Option Form) (more : Option Form → List Found) where
  right_none : (rest : Result (List Line) LinesFault)
      → IsSaid skip rest (number + 1) (more known)
      → IsSaid skip rest number (and_found known line (Ok None) more)
  right_none (Err why) follows = follows
  right_none (Ok said) follows = record { said_is = follows.said_is; none = follows.none }

  right_some : (one : Line) (rest : Result (List Line) LinesFault)
      → IsSaid skip rest (number + 1) (more (Some (form_or known line)))
      → IsSaid skip (before one rest) number (and_found known line (Ok (Some one)) more)
  right_some one (Err why) follows = follows
  right_some one (Ok said) follows = record { said_is = ap (λ l. one ∷ l) follows.said_is; none = follows.none }

  right_said : (said : Result Line LineFault) (rest : Result (List Line) LinesFault)
      → IsSaid skip rest (number + 1) (more (Some (form_or known line)))
      → IsSaid skip (with_line number (some_line said) rest) number (and_found known line (some_line said) more)
  right_said (Err why) rest follows = refl
  right_said (Ok one) rest follows = right_some one rest follows

module _ (skip : Bool) (settings : Settings) where
  right_one : (form : Form) (number : ℕ) (line : List ℕ) (found : Found) (rest : Result (List Line) LinesFault)
      (more : Option Form → List Found) → IsSaid skip rest (number + 1) (more (Some form))
      → IsSaid skip (with_line number found rest) number (and_found (Some form) line found more)
  right_one form number line (Err why) rest more follows = refl
  right_one form number line (Ok None) rest more follows = right_none skip number line (Some form) more rest follows
  right_one form number line (Ok (Some said)) rest more follows =
      right_some skip number line (Some form) more said rest follows

  -- Lines whose form is known.
  pub all_right : (form : Form) (number : ℕ) (lines : List (List ℕ))
      → IsSaid skip (lines_from settings form number lines) number (found_in settings (Some form) lines)
  all_right form number [] = record { said_is = refl; none = refl }
  all_right form number (line ∷ lines) =
      right_one form number line (line_of settings form line) (lines_from settings form (number + 1) lines)
      (λ known. found_in settings known lines) (all_right form (number + 1) lines)

  first_right : (passed : Bool) (number : ℕ) (line : List ℕ) (lines : List (List ℕ))
      (says : Form → Result Line LineFault)
      → IsSaid skip (lines_from settings (first_form lines) (number + 1) lines) (number + 1)
      (found_in settings None lines)
      → IsSaid skip (with_line number (if passed then Ok None else some_line
      (says (if passed then first_form lines else form_of_line line)))
      (lines_from settings (if passed then first_form lines else form_of_line line) (number + 1) lines)) number
      (and_found None line (if passed then Ok None else some_line (says (form_of_line line)))
      (λ known. found_in settings known lines))
  first_right true number line lines says follows =
      right_none skip number line None (λ known. found_in settings known lines)
      (lines_from settings (first_form lines) (number + 1) lines) follows
  first_right false number line lines says follows =
      right_said skip number line None (λ known. found_in settings known lines) (says (form_of_line line))
      (lines_from settings (form_of_line line) (number + 1) lines) (all_right (form_of_line line) (number + 1) lines)

  -- Lines whose form is that of the first.
  unknown_right : (number : ℕ) (lines : List (List ℕ))
      → IsSaid skip (lines_from settings (first_form lines) number lines) number (found_in settings None lines)
  unknown_right number [] = record { said_is = refl; none = refl }
  unknown_right number (line ∷ lines) =
      first_right (is_passed_over line) number line lines (λ form. line_by settings form (fields_of line))
      (unknown_right (number + 1) lines)

  form_right : (numbers : Option ℕ) (number : ℕ) (lines : List (List ℕ))
      → IsSaid skip (lines_from settings (form_of numbers lines) number lines) number
      (found_in settings (known_form numbers) lines)
  form_right None number lines = unknown_right number lines
  form_right (Some numbers) number lines = all_right Numbered number lines

  -- The lines of a text that come one by one.
  pub text_right : (text : List ℕ) → IsSaid skip (lines_of settings text) 1
      (found_in settings (known_form settings.numbers) (lines text))
  text_right text = form_right settings.numbers 1 (lines text)
