-- The lines of hexadecimal of logs say the messages of these logs.
use Rattle.std.proofs.Common.{◌≡◌, ◌≤◌, ◌<◌, ◌%◌, ◌^◌, ◌+◌, ◌++◌, ◌∙◌, ℕ, All, List, [], ◌∷◌, Option, None, Some, Ok}
use Rattle.std.proofs.Common.{arith, ap, refl}
use Rattle.std.proofs.Common.{get_or, length, map, subst, sym}
use Rattle.std.specs.Prelude.{if◌then◌else◌, max, unwrap_or}
use Rattle.std.specs.List.{fold}
use Rattle.std.specs.Str.Lines.{lines}
use Rattle.std.proofs.lemmas.List.{map-append}
use Rattle.std.proofs.lemmas.List.Elements.{All-cons, All-head, All-nil, All-tail}
use Rattle.std.proofs.lemmas.List.Sums.{fold-append}
use Rattle.std.proofs.lemmas.Nat.{mod_below, pow_pos}
use Rattle.captures.specs.HexLines.{hex_text}
use Rattle.captures.specs.Messages.{messages_of_harts}
use Rattle.captures.specs.Versions.{capture_of, start_bytes}
use Rattle.encoder.specs.Payloads.{payloads}
use Rattle.legalpath.specs.ProgramLog.{ProgramLog}
use Rattle.message.specs.Capture.{capture}
use Rattle.message.specs.Cut.{IsMessage}
use Rattle.message.specs.Numbered.{messages_from}
use Rattle.message.specs.Version.{most_harts}
use Rattle.message.specs.declared.header.Version.{Version}
use Rattle.message.specs.declared.header.Version.TheVariants.{One, Two}
use Rattle.message.specs.declared.message.Message.{Message}
use Rattle.payload.specs.declared.mode.Mode.{Mode}
use Rattle.captures.specs.Capture.{capture_of_text, capture_or_fault, header_with}
use Rattle.captures.specs.Line.{form_of_line}
use Rattle.captures.specs.Lines.{before, first_form, form_of, harts_up_to, lines_from, lines_of, messages_after}
use Rattle.captures.specs.Lines.{messages_of, with_line}
use Rattle.captures.specs.Returned.{IsLongLegalLog}
use Rattle.captures.specs.ReadBack.{settings_of}
use Rattle.captures.specs.Recovered.{low_message}
use Rattle.captures.specs.declared.line_form.Form.TheVariants.{Numbered}
use Rattle.captures.specs.declared.capture_line.Line.{Line}
use Rattle.captures.specs.declared.line_settings.Settings.{Settings}
use Rattle.captures.proofs.Lowest.{rest_within}
use Rattle.captures.proofs.SentMessages.{IsOf, messages_are_of}
use Rattle.captures.proofs.HexLineRead.{form_is, line_in, line_is, said_of, text_of, told}

-- The lines are those of the messages.
lines_are : (harts : ℕ) (ms : List Message) → All (IsOf harts) ms → lines (hex_text ms) ≡ map text_of ms
lines_are harts [] right = refl
lines_are harts (m ∷ ms) right =
    line_in m (All-head (IsOf harts) m ms right).0 (hex_text ms)
    ∙ ap (λ l. text_of m ∷ l) (lines_are harts ms (All-tail (IsOf harts) m ms right))

-- Their form has numbers.
first_is : (harts : ℕ) (ms : List Message) → All (IsOf harts) ms → first_form (map text_of ms) ≡ Numbered
first_is harts [] right = refl
first_is harts (m ∷ ms) right =
    let first = (All-head (IsOf harts) m ms right).0 in
    ap (λ b. if b then first_form (map text_of ms) else form_of_line (text_of m)) (told m first) ∙ form_is m first

forms_are : (numbers : Option ℕ) (harts : ℕ) (ms : List Message) → All (IsOf harts) ms
    → form_of numbers (map text_of ms) ≡ Numbered
forms_are None harts ms right = first_is harts ms right
forms_are (Some numbers) harts ms right = refl

-- The message is in its ranges, its hart is one of the version, and a line can have its number.
abbrev IsRead : Settings → Message → Type 0
IsRead settings m = IsOf (most_harts settings.version) m × (m.number < unwrap_or settings.numbers (2 ^ 64))

-- They say the messages.
said_are : (settings : Settings) (number : ℕ) (ms : List Message) → settings.harts ≡ None → All (IsRead settings) ms
    → lines_from settings Numbered number (map text_of ms) ≡ Ok (map said_of ms)
said_are settings number [] any right = refl
said_are settings number (m ∷ ms) any right =
    let known = IsRead settings in
    let first = All-head known m ms right in
    ap (λ r. with_line number r (lines_from settings Numbered (number + 1) (map text_of ms)))
    (line_is m first.0.0 settings any first.0.1 first.1)
    ∙ ap (before (said_of m)) (said_are settings (number + 1) ms any (All-tail known m ms right))

messages_are : (earlier ms : List Message) → messages_after None earlier (map said_of ms) ≡ ms
messages_are earlier [] = refl
messages_are earlier (m ∷ ms) = ap (λ l. m ∷ l) (messages_are (earlier ++ (m ∷ [])) ms)

-- The count of harts with one line more.
abbrev most_with : ℕ → Line → ℕ
most_with most line = max most (line.hart + 1)

stays : (hart number : ℕ) (ps : List (List ℕ))
    → fold most_with (hart + 1) (map said_of (messages_from hart number ps)) ≡ hart + 1
stays hart number [] = refl
stays hart number (p ∷ ps) =
    let same : max (hart + 1) (hart + 1) ≡ hart + 1 = omega arith in
    ap (λ n. fold most_with n (map said_of (messages_from hart (number + 1) ps))) same ∙ stays hart (number + 1) ps

raised : (most hart number : ℕ) (ps : List (List ℕ)) → 1 ≤ length ps → most ≤ hart + 1
    → fold most_with most (map said_of (messages_from hart number ps)) ≡ hart + 1
raised most hart number [] some few = absurd (omega (arith, some))
raised most hart number (p ∷ ps) some few =
    let same : max most (hart + 1) ≡ hart + 1 = omega (arith, few) in
    ap (λ n. fold most_with n (map said_of (messages_from hart (number + 1) ps))) same ∙ stays hart (number + 1) ps

-- A log has a packet that opens its trace.
some_payloads : (period : ℕ) (mode : Mode) (log : ProgramLog) → 1 ≤ length (payloads period mode log)
some_payloads period mode log = omega arith

one_hart : (period : ℕ) (mode : Mode) (most hart : ℕ) (log : ProgramLog) (logs : List ProgramLog) → most ≤ hart + 1
    → fold most_with most (map said_of (messages_of_harts period mode hart (log ∷ logs)))
    ≡ fold most_with (hart + 1) (map said_of (messages_of_harts period mode (hart + 1) logs))
one_hart period mode most hart log logs few =
    let here = messages_from hart 0 (payloads period mode log) in
    let later = messages_of_harts period mode (hart + 1) logs in
    ap (fold most_with most) (map-append said_of here later)
    ∙ fold-append most_with most (map said_of here) (map said_of later)
    ∙ ap (λ n. fold most_with n (map said_of later))
    (raised most hart 0 (payloads period mode log) (some_payloads period mode log) few)

-- Each log has a message, so the count goes up to the last hart.
harts_are : (period : ℕ) (mode : Mode) (most hart : ℕ) (log : ProgramLog) (logs : List ProgramLog) → most ≤ hart + 1
    → fold most_with most (map said_of (messages_of_harts period mode hart (log ∷ logs))) ≡ hart + length (log ∷ logs)
harts_are period mode most hart log [] few = one_hart period mode most hart log [] few
harts_are period mode most hart log (next ∷ logs) few =
    let here = one_hart period mode most hart log (next ∷ logs) few in
    let rest = harts_are period mode (hart + 1) (hart + 1) next logs (omega arith) in
    omega (arith, here, rest)

count_is : (period : ℕ) (mode : Mode) (logs : List ProgramLog) → 1 ≤ length logs
    → harts_up_to (map said_of (messages_of_harts period mode 0 logs)) ≡ length logs
count_is period mode [] some = absurd (omega (arith, some))
count_is period mode (log ∷ logs) some =
    let all = harts_are period mode 1 0 log logs (omega arith) in
    omega (arith, all)

few_harts : (version : Version) → most_harts version ≤ 2 ^ 16
few_harts One = omega arith
few_harts Two = omega arith

-- The lines of hexadecimal of logs become the capture of these logs.
pub become_the_capture : (version : Version) (mode : Mode) (period : ℕ) (logs : List ProgramLog) → 1 ≤ length logs
    → length logs ≤ most_harts version → All IsLongLegalLog logs
    → capture_of_text (settings_of version mode period) (hex_text (messages_of_harts period mode 0 logs))
    ≡ Ok (capture_of version period mode logs)
become_the_capture version mode period logs some few legal =
    let settings = settings_of version mode period in
    let ms = messages_of_harts period mode 0 logs in
    let right = messages_are_of period mode (most_harts version) 0 logs (omega (arith, few))
    (few_harts version) legal in
    ap (λ ls. capture_or_fault settings (lines_from settings (form_of settings.numbers ls) 1 ls)) (lines_are
    (most_harts version) ms right)
    ∙ ap (λ f. capture_or_fault settings (lines_from settings f 1 (map text_of ms)))
    (forms_are None (most_harts version) ms right)
    ∙ ap (capture_or_fault settings)
    (said_are settings 1 ms refl (λ k d inside. (right k d inside, (right k d inside).0.number)))
    ∙ ap (λ n. Ok (start_bytes version (header_with settings n) ++ capture (messages_of None (map said_of ms))))
    (count_is period mode logs some)
    ∙ ap (λ l. Ok (start_bytes version (header_with settings (length logs)) ++ capture l)) (messages_are [] ms)

-- The lines of hexadecimal of messages, whose numbers a line can have.
text_said : (settings : Settings) (ms : List Message) → settings.harts ≡ None → All (IsRead settings) ms
    → lines_of settings (hex_text ms) ≡ Ok (map said_of ms)
text_said settings ms any right =
    let harts = most_harts settings.version in
    let are = λ (k : ℕ) (d : Message) (inside : k < length ms). (right k d inside).0 in
    ap (λ ls. lines_from settings (form_of settings.numbers ls) 1 ls) (lines_are harts ms are)
    ∙ ap (λ f. lines_from settings f 1 (map text_of ms)) (forms_are settings.numbers harts ms are)
    ∙ said_are settings 1 ms any right

-- The lines of hexadecimal of messages say these messages.
pub say_their_messages : (settings : Settings) (ms : List Message) → settings.harts ≡ None → settings.numbers ≡ None
    → All (λ (m : Message). IsMessage m × (m.hart < most_harts settings.version)) ms
    → (said : List Line) × (lines_of settings (hex_text ms) ≡ Ok said) × (messages_of settings.numbers said ≡ ms)
say_their_messages settings ms any whole right =
    let few : unwrap_or settings.numbers (2 ^ 64) ≡ 2 ^ 64 = ap (λ n. unwrap_or n (2 ^ 64)) whole in
    let each : All (IsRead settings) ms = λ k d inside.
    (right k d inside, subst (λ n. (get_or ms k d).number < n) (sym few) (right k d inside).0.number) in (
      map said_of ms,
      text_said settings ms any each,
      ap (λ n. messages_of n (map said_of ms)) whole ∙ messages_are [] ms,
    )

low_are : (settings : Settings) (bits : ℕ) (ms : List Message) → settings.numbers ≡ Some (2 ^ bits)
    → All (IsOf (most_harts settings.version)) ms → All (IsRead settings) (map (low_message bits) ms)
low_are settings bits [] counts right = All-nil (IsRead settings)
low_are settings bits (m ∷ ms) counts right =
    let known = IsOf (most_harts settings.version) in
    let first = All-head known m ms right in
    let ranges : IsMessage (low_message bits m) = record {
      hart = first.0.hart;
      number = omega (arith, rest_within m.number (2 ^ bits), first.0.number);
      some = first.0.some;
      few = first.0.few;
      bytes = first.0.bytes;
    } in
    let few : m.number % 2 ^ bits < unwrap_or settings.numbers (2 ^ 64) =
    subst (λ n. m.number % 2 ^ bits < unwrap_or n (2 ^ 64)) (sym counts) (mod_below m.number (2 ^ bits)
    (pow_pos bits)) in
    All-cons (IsRead settings) (low_message bits m) (map (low_message bits) ms) ((ranges, first.1), few)
    (low_are settings bits ms counts (All-tail known m ms right))

-- The lines of hexadecimal of messages with low bits of their numbers.
pub low_text : (settings : Settings) (bits : ℕ) (ms : List Message) → settings.harts ≡ None
    → settings.numbers ≡ Some (2 ^ bits)
    → All (λ (m : Message). IsMessage m × (m.hart < most_harts settings.version)) ms
    → lines_of settings (hex_text (map (low_message bits) ms)) ≡ Ok (map said_of (map (low_message bits) ms))
low_text settings bits ms any counts right =
    text_said settings (map (low_message bits) ms) any (low_are settings bits ms counts right)
