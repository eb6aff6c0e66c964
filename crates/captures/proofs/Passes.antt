-- Passes one after another, and what is written of them.
use Rattle.std.proofs.Common.{◌≡◌, ℕ, Bool, true, false, List, [], ◌∷◌, ◌++◌, Option, Some, None, Result, Ok, Err}
use Rattle.std.proofs.Common.{ap, refl, subst, sym, ◌∙◌, inl, inr, append-nil, append_assoc}
use Rattle.std.specs.Prelude.{IfErr, OnOk}
use Rattle.std.proofs.KnownBytes.{Appends-nil, Appends-trans}
use Rattle.std.specs.Io.KnownBytes.{Appends}
use Rattle.std.specs.Str.Lines.{lines}
use Rattle.output.specs.Begun.{AppendsBeginning}
use Rattle.output.proofs.Beginnings.{begun_behind, begun_between, begun_in_front, whole_begun}
use Rattle.message.specs.Capture.{capture, message_bytes}
use Rattle.message.specs.declared.message.Message.{Message}
use Rattle.captures.specs.Line.{line_of}
use Rattle.captures.specs.Pass.{IsPassed, Pass, after_fault, after_line, after_none, no_pass, pass, pass_fault}
use Rattle.captures.specs.Pass.{pass_found, then_pass}
use Rattle.captures.specs.Streamed.{Found, form_or}
use Rattle.captures.specs.declared.line_fault.LineFault.{LineFault}
use Rattle.captures.specs.declared.line_fault.LinesFault.{LinesFault}
use Rattle.captures.specs.declared.line_fault.LinesFault.TheVariants as fault
use Rattle.captures.specs.declared.line_form.Form.{Form}
use Rattle.captures.specs.declared.line_settings.Settings.{Settings}
use Rattle.captures.specs.declared.passed_lines.PassedLines.{PassedLines}
use Rattle.captures.specs.steps.Passing.{message_at}

pub joined : (front back : List Message) → capture (front ++ back) ≡ capture front ++ capture back
joined [] back = refl
joined (m ∷ front) back =
    ap (λ (l : List ℕ). message_bytes m ++ l) (joined front back)
    ∙ sym (append_assoc (message_bytes m) (capture front) (capture back))

-- Another pass follows, unless the first ended at a fault.
abbrev pub go_on : Option LinesFault → Pass → Pass → Pass
go_on None first later = then_pass first.messages later
go_on (Some why) first later = first

abbrev pub and_then : Pass → (PassedLines → Pass) → Pass
and_then first later = go_on first.stop first (later first.passed)

abbrev with_messages : Pass → List Message → Pass
with_messages its messages = record { messages = messages; passed = its.passed; stop = its.stop }

abbrev with_stop : Pass → Option LinesFault → Pass
with_stop its stop = record { messages = its.messages; passed = its.passed; stop = stop }

pub then_then : (front back : List Message) (its : Pass)
    → then_pass front (then_pass back its) ≡ then_pass (front ++ back) its
then_then front back its = ap (with_messages its) (sym (append_assoc front back its.messages))

go_on_behind : (stop : Option LinesFault) (front : List Message) (first later : Pass)
    → go_on stop (then_pass front first) later ≡ then_pass front (go_on stop first later)
go_on_behind None front first later = sym (then_then front first.messages later)
go_on_behind (Some why) front first later = refl

module _ (later first : PassedLines → Pass) (next : PassedLines → Pass)
    (parts : (passed : PassedLines) → later passed ≡ and_then (first passed) next) where
  fault_parts : (skip : Bool) (passed : PassedLines) (why : LineFault)
      → pass_fault skip passed why later ≡ and_then (pass_fault skip passed why first) next
  fault_parts true passed why = parts (after_fault passed)
  fault_parts false passed why = refl

  found_parts : (numbers : Option ℕ) (skip : Bool) (passed : PassedLines) (form : Form) (found : Found)
      → pass_found numbers skip passed form found later
      ≡ and_then (pass_found numbers skip passed form found first) next
  found_parts numbers skip passed form (Ok None) = parts (after_none passed)
  found_parts numbers skip passed form (Ok (Some line)) =
      let message = message_at numbers passed.counts passed.lows line in
      let after = after_line numbers form line message passed in
      ap (then_pass (message ∷ [])) (parts after)
      ∙ sym (go_on_behind (first after).stop (message ∷ []) (first after) (next (first after).passed))
  found_parts numbers skip passed form (Err why) = fault_parts skip passed why

-- Lines in two parts are passed part by part.
pub pass_parts : (settings : Settings) (skip : Bool) (front back : List (List ℕ)) (passed : PassedLines)
    → pass settings skip passed (front ++ back)
    ≡ and_then (pass settings skip passed front) (λ passed. pass settings skip passed back)
pass_parts settings skip [] back passed = refl
pass_parts settings skip (line ∷ front) back passed =
    found_parts (λ passed. pass settings skip passed (front ++ back)) (λ passed. pass settings skip passed front)
    (λ passed. pass settings skip passed back) (λ passed. pass_parts settings skip front back passed)
    settings.numbers skip passed (form_or passed.form line) (line_of settings (form_or passed.form line) line)

pub goes_on : (stop : Option LinesFault) (first later : Pass) → stop ≡ None
    → go_on stop first later ≡ then_pass first.messages later
goes_on None first later none = refl
goes_on (Some why) first later none = cc

pub ends : (stop : Option LinesFault) (why : LinesFault) (first later : Pass) → stop ≡ Some why
    → go_on stop first later ≡ first
ends None why first later is = cc
ends (Some own) why first later is = refl

pub front_of : (stop : Option LinesFault) (first later : Pass)
    → (tail : List Message) × ((go_on stop first later).messages ≡ first.messages ++ tail)
front_of None first later = (later.messages, refl)
front_of (Some why) first later = ([], sym (append-nil first.messages))

-- These bytes and the messages before a pass are written, and of it and those after it none yet.
pub record IsUnderWay (start : List ℕ) (whole rest : Pass) (old new : Option (List ℕ)) : Type 0 where
  pub messages : List Message
  pub parted : whole ≡ then_pass messages rest
  pub written : Appends old new (start ++ capture messages)

-- No message is written yet.
pub under_way : (whole : Pass) (old : Option (List ℕ)) → IsUnderWay [] whole whole old old
under_way whole old = record { messages = []; parted = refl; written = Appends-nil old }

module _ (start : List ℕ) (whole : Pass) (old mid : Option (List ℕ)) where
  -- No more line is passed.
  pub all_passed : (done : Unit {0}) (passed : PassedLines) → IsUnderWay start whole (no_pass passed) old mid
      → IsPassed start whole (Ok done) passed old mid
  all_passed done passed under =
      let is = under.parted in (
        ap (λ (its : Pass). its.stop) is,
        sym (ap (λ (its : Pass). its.passed) is),
        subst (λ messages. Appends old mid (start ++ capture messages))
            (sym (ap (λ (its : Pass). its.messages) is ∙ append-nil under.messages)) under.written,
      )

  -- More may follow of what was passed.
  pub goes_under_way : (done : Unit {0}) (first : Pass) (next : PassedLines → Pass) (passed : PassedLines)
      → whole ≡ and_then first next → IsPassed start first (Ok done) passed old mid
      → IsUnderWay start whole (next passed) old mid
  goes_under_way done first next passed is (none, own, more) = record {
    messages = first.messages;
    parted =
        is
        ∙ goes_on first.stop first (next first.passed) none
        ∙ ap (λ passed. then_pass first.messages (next passed)) (sym own);
    written = more;
  }

  all_bytes : (rest : Pass) (under : IsUnderWay start whole rest old mid)
      → start ++ capture whole.messages ≡ (start ++ capture under.messages) ++ capture rest.messages
  all_bytes rest under =
      ap (λ (its : Pass). start ++ capture its.messages) under.parted
      ∙ ap (λ l. start ++ l) (joined under.messages rest.messages)
      ∙ sym (append_assoc start (capture under.messages) (capture rest.messages))

  -- What is written is a prefix.
  pub is_begun : (rest : Pass) → IsUnderWay start whole rest old mid
      → AppendsBeginning (start ++ capture whole.messages) old mid
  is_begun rest under =
      subst (λ l. AppendsBeginning l old mid) (sym (all_bytes rest under))
      (begun_in_front (start ++ capture under.messages) (capture rest.messages) old mid
      (whole_begun (start ++ capture under.messages) old mid under.written))

  -- The writer failed before the next message.
  pub cut_off : (rest : Pass) (passed : PassedLines) → IsUnderWay start whole rest old mid
      → IsPassed {U = Unit {0}} start whole (Err fault.Write) passed old mid
  cut_off rest passed under = inl (refl, is_begun rest under)

  module _ (first : Pass) (next : PassedLines → Pass) (new : Option (List ℕ))
      (under : IsUnderWay start whole (and_then first next) old mid) where
    -- The lines of a pass were passed, and others follow.
    pub passed_on : (done : Unit {0}) (passed : PassedLines) → IsPassed [] first (Ok done) passed mid new
        → IsUnderWay start whole (next passed) old new
    passed_on done passed (none, is, more) = record {
      messages = under.messages ++ first.messages;
      parted =
          under.parted
          ∙ ap (then_pass under.messages) (goes_on first.stop first (next first.passed) none
          ∙ ap (λ passed. then_pass first.messages (next passed)) (sym is))
          ∙ then_then under.messages first.messages (next passed);
      written =
          subst (Appends old new) (append_assoc start (capture under.messages) (capture first.messages)
          ∙ ap (λ l. start ++ l) (sym (joined under.messages first.messages)))
          (Appends-trans old mid new (start ++ capture under.messages) (capture first.messages) under.written more);
    }

    -- It ended at a fault.
    pub ended_at : (why : LinesFault) (passed : PassedLines)
        → IsPassed {U = Unit {0}} [] first (Err why) passed mid new
        → IsPassed {U = Unit {0}} start whole (Err why) passed old new
    ended_at why passed (inl (is, begun)) =
        let tail = front_of first.stop first (next first.passed) in
        let front = start ++ capture under.messages in
        let bytes = all_bytes (and_then first next) under
        ∙ ap (λ messages. front ++ capture messages) tail.1
        ∙ ap (λ l. front ++ l) (joined first.messages tail.0) in
        inl (
          is,
          subst (λ l. AppendsBeginning l old new) (sym bytes)
              (begun_between front (capture first.messages) (capture tail.0) old mid new under.written begun),
        )
    ended_at why passed (inr (stop, kept, more)) =
        let same = ends first.stop why first (next first.passed) stop in
        let is : whole ≡ then_pass under.messages first = under.parted ∙ ap (then_pass under.messages) same in
        inr (
          ap (λ (its : Pass). its.stop) is ∙ stop,
          kept ∙ sym (ap (λ (its : Pass). its.passed) is),
          subst (Appends old new)
              (sym (all_bytes (and_then first next) under
              ∙ ap (λ (its : Pass). (start ++ capture under.messages) ++ capture its.messages) same))
              (Appends-trans old mid new (start ++ capture under.messages) (capture first.messages) under.written more),
        )

and_none_by : (stop : Option LinesFault) (first : Pass) → stop ≡ first.stop
    → go_on stop first (no_pass first.passed) ≡ first
and_none_by None first is =
    ap (with_stop (with_messages first (first.messages ++ []))) is
    ∙ ap (with_messages first) (append-nil first.messages)
and_none_by (Some why) first is = refl

-- A pass after another is made, and then no more line is passed.
pub passed_whole : (start : List ℕ) (whole : Pass) (old mid : Option (List ℕ)) (first : Pass)
    (passed : PassedLines) (new : Option (List ℕ)) (result : Result (Unit {0}) LinesFault)
    → IsUnderWay start whole first old mid → IsPassed [] first result passed mid new
    → IsPassed start whole result passed old new
passed_whole start whole old mid first passed new (Ok done) under is =
    all_passed start whole old new done passed
    (passed_on start whole old mid first no_pass new
    (subst (λ its. IsUnderWay start whole its old mid) (sym (and_none_by first.stop first refl)) under) done passed is)
passed_whole start whole old mid first passed new (Err why) under is =
    ended_at start whole old mid first no_pass new
    (subst (λ its. IsUnderWay start whole its old mid) (sym (and_none_by first.stop first refl)) under) why passed is

-- The lines of a text are passed one by one.
pub line_by_line : (settings : Settings) (skip : Bool) (whole : Pass) (passed : PassedLines) (line : List ℕ)
    (text rest : List ℕ) (old new : Option (List ℕ)) → lines text ≡ line ∷ lines rest
    → IsUnderWay [] whole (pass settings skip passed (lines text)) old new
    → IsUnderWay [] whole
    (and_then (pass settings skip passed (line ∷ [])) (λ passed. pass settings skip passed (lines rest))) old new
line_by_line settings skip whole passed line text rest old new is under =
    subst (λ its. IsUnderWay [] whole its old new)
    (ap (pass settings skip passed) is ∙ pass_parts settings skip (line ∷ []) (lines rest) passed) under

-- No more is written.
pub nothing_passed : (its : Pass) (passed : PassedLines) (bytes : Option (List ℕ))
    → IsPassed {U = Unit {0}} [] its (Err fault.Write) passed bytes bytes
nothing_passed its passed bytes =
    inl (refl, record { text = []; rest = capture its.messages; parted = refl; appended = Appends-nil bytes })

-- Of a pass that ends at no fault, what comes before it and its messages are written, or a prefix of them.
pub record IsWritten (text : List ℕ) (result : Result (Unit {0}) LinesFault) (old new : Option (List ℕ)) : Type 0
  where
    pub written : OnOk result (Appends old new text)
    pub begun : AppendsBeginning text old new
    pub fault : IfErr result (λ why. why ≡ fault.Write)

never_stops : (stop : Option LinesFault) (why : LinesFault) → stop ≡ None → stop ≡ Some why → ⊥
never_stops stop why none is = cc

pub all_written : (start : List ℕ) (its : Pass) (passed : PassedLines) (old mid new : Option (List ℕ))
    (result : Result (Unit {0}) LinesFault) → its.stop ≡ None → Appends old mid start
    → IsPassed [] its result passed mid new
    → IsWritten (start ++ capture its.messages) result old new
all_written start its passed old mid new (Ok done) right first (none, is, more) =
    let all = Appends-trans old mid new start (capture its.messages) first more in
    record { written = all; begun = whole_begun (start ++ capture its.messages) old new all; fault = tt }
all_written start its passed old mid new (Err why) right first (inl (is, begun)) = record {
  written = tt;
  begun = begun_behind start (capture its.messages) old mid new first begun;
  fault = is;
}
all_written start its passed old mid new (Err why) right first (inr (stop, kept, more)) =
    absurd (never_stops its.stop why right stop)
