-- The rows of the messages of RECEIVED and of the bytes between them, one after the other.
use Rattle.std.proofs.Common.{◌≡◌, ℕ, ◌+◌, ◌^◌, ◌<◌, ◌≤◌, List, [], ◌∷◌, ◌++◌}
use Rattle.std.proofs.Common.{Option, length, refl, sym, ap, subst}
use Rattle.std.proofs.Common.{◌∙◌, arith, append-nil}
use Rattle.std.proofs.lemmas.List.{append_assoc, length_push}
use Rattle.std.specs.Io.KnownBytes.{Appends}
use Rattle.output.specs.Begun.{AppendsBeginning}
use Rattle.payload.specs.declared.by.By.{By}
use Rattle.frames.specs.declared.span.Span.{Span}
use Rattle.frames.specs.declared.span.Span.TheVariants.{Frame, Bytes}
use Rattle.message.specs.declared.range.HartRange.{HartRange}
use Rattle.message.specs.declared.message.Message.{Message}
use Rattle.frames.specs.Counted.{bytes_in, messages_in, runs_in, span_size}
use Rattle.auditing.specs.Audits.{Audits}
use Rattle.auditing.specs.Known.{known_all}
use Rattle.auditing.specs.Ledger.{Ledger}
use Rattle.output.proofs.FieldParts.{HasWritten, part_all, part_begun, part_more, part_none}
use Rattle.path_commands.proofs.Notes.{IsNoted, noted_none, noted_span}
use Rattle.path_commands.specs.Rows.{front_row, front_rows, span_row, span_rows}
use Rattle.path_commands.specs.declared.noting.Noted.{Noted}
use Rattle.path_commands.specs.declared.received.Progress.{Progress}
use Rattle.path_commands.specs.declared.report.Report.{Report}
use Rattle.path_commands.specs.steps.Noting.{none_noted, noted_more, noted_of}
use Rattle.path_commands.specs.steps.Reading.{progress_after}

-- How far RECEIVED is read, where so many of its bytes are left.
pub record IsProgress (all rest front : List Span) (taken : List Message) (progress : Progress) (left size : ℕ)
    : Type 0 where
  pub messages : messages_in all ≡ taken ++ messages_in rest
  pub place : progress.messages ≡ length taken
  pub bytes : progress.bytes + bytes_in rest ≡ bytes_in all
  pub runs : progress.runs + runs_in rest ≡ runs_in all
  pub few : length taken + progress.runs + left ≤ size
  pub most : progress.bytes + left ≤ size

-- One span more.
pub progress_more : (all rest front : List Span) (taken : List Message) (progress : Progress) (left next size : ℕ)
    (span : Span) → size < 2 ^ 64 → 1 ≤ span_size span → span_size span + next ≡ left
    → IsProgress all (span ∷ rest) front taken progress left size
    → IsProgress all rest front (taken ++ messages_in (span ∷ [])) (progress_after progress span) next size
progress_more all rest front taken progress left next size (Frame offset message) short some sized is =
    let few = is.few in
    let most = is.most in
    let place = is.place in
    let long = length_push taken message in
    record {
      messages = is.messages ∙ sym (append_assoc taken (message ∷ []) (messages_in rest));
      place = omega (arith, place, long, few, short, some, sized);
      bytes = is.bytes;
      runs = is.runs;
      few = omega (arith, few, long, some, sized);
      most = omega (arith, most, some, sized);
    }
progress_more all rest front taken progress left next size (Bytes offset count) short some sized is =
    let few = is.few in
    let most = is.most in
    let same = append-nil taken in
    let long : length (taken ++ []) ≡ length taken = ap length same in
    let bytes = is.bytes in
    let runs = is.runs in
    record {
      messages = is.messages ∙ ap (λ l. l ++ messages_in rest) (sym same);
      place = is.place ∙ sym long;
      bytes = omega (arith, bytes, most, short, sized);
      runs = omega (arith, runs, few, short, some, sized);
      few = omega (arith, few, long, short, some, sized);
      most = omega (arith, most, short, sized);
    }

-- What is noted, where so many bytes are left.
pub noted_on : (how : By) (harts : HartRange) (sent : List Message) (all rest : List Span) (taken : List Message)
    (progress : Progress) (left next size : ℕ) (span : Span) (noted more : Noted) → size < 2 ^ 64 → 1 ≤ span_size span
    → span_size span + next ≡ left → IsProgress all (span ∷ rest) [] taken progress left size
    → IsNoted harts (known_all how sent) (known_all how taken) noted
    → more ≡ noted_more how harts sent taken noted progress.messages span
    → IsNoted harts (known_all how sent) (known_all how (taken ++ messages_in (span ∷ []))) more
noted_on how harts sent all rest taken progress left next size span noted more short some sized is has more_is =
    let few = is.few in
    noted_span how harts sent taken noted progress.messages has is.place (omega
    (arith, few, short, some, sized)) span more
    more_is

-- Some spans of RECEIVED were read, and their rows are written; these are left.
pub record HasRead (how : By) (report : Report) (sent : List Message) (all rest : List Span)
    (path : Ledger) (noted : Noted) (progress : Progress) (left size : ℕ) (old new : Option (List ℕ)) : Type 0 where
  pub taken : List Message
  pub audits : Audits sent taken path
  pub is : IsProgress all rest [] taken progress left size
  pub notes : IsNoted report.harts (known_all how sent) (known_all how taken) noted
  pub written : HasWritten (front_rows how report sent all) (span_rows how report sent taken rest) old new

-- At first none is, and what precedes all rows is written.
pub read_none : (how : By) (report : Report) (sent : List Message) (all : List Span) (path : Ledger)
    (noted : Noted) (progress : Progress) (size : ℕ) (old new : Option (List ℕ))
    → progress ≡ record { messages = 0; bytes = 0; runs = 0 } → Audits sent [] path → noted ≡ none_noted
    → Appends old new (front_row report.format) → HasRead how report sent all all path noted progress size size old
    new
read_none how report sent all path noted progress size old new starts audits none named = record {
  taken = [];
  audits = audits;
  is = subst (λ p. IsProgress all all [] [] p size size) (sym starts) (record {
    messages = refl;
    place = refl;
    bytes = omega arith;
    runs = omega arith;
    few = omega arith;
    most = omega arith;
  });
  notes = noted_none report.harts (known_all how sent) noted none;
  written =
      part_more (front_rows how report sent all) (front_row report.format)
      (span_rows how report sent [] all) old
      old new (part_none (front_rows how report sent all) old) named;
}

module _ (how : By) (report : Report) (sent : List Message) (all rest : List Span) (path : Ledger)
    (noted : Noted) (progress : Progress) (left size : ℕ) (old mid : Option (List ℕ)) (span : Span)
    (has : HasRead how report sent all (span ∷ rest) path noted progress left size old mid) where
  -- One span more is read.
  pub read_more : (more : Ledger) (notes : Noted) (next : ℕ) (new : Option (List ℕ)) → size < 2 ^ 64
      → 1 ≤ span_size span → span_size span + next ≡ left
      → ((received : List Message) → Audits sent received path → Audits sent (received ++ messages_in (span ∷ [])) more)
      → ((received : List Message) → Audits sent received path
      → notes ≡ noted_more how report.harts sent received noted progress.messages span)
      → ((received : List Message) → Audits sent received path → progress.messages ≡ length received
      → Appends mid new (span_row how report sent received span))
      → HasRead how report sent all rest more notes (progress_after progress span) next size old new
  read_more more notes next new short some sized audits noting text = record {
    taken = has.taken ++ messages_in (span ∷ []);
    audits = audits has.taken has.audits;
    is = progress_more all rest [] has.taken progress left next size span short some sized has.is;
    notes =
        noted_on how report.harts sent all rest has.taken progress left next size span noted notes short some sized
        has.is
        has.notes
        (noting has.taken has.audits);
    written =
        part_more (front_rows how report sent all) (span_row how report sent has.taken span)
        (span_rows how report sent (has.taken ++ messages_in (span ∷ [])) rest) old mid new has.written
        (text has.taken has.audits has.is.place);
  }

  -- Or a beginning of its row is written.
  pub read_begun : (new : Option (List ℕ))
      → ((received : List Message) → Audits sent received path → progress.messages ≡ length received
      → AppendsBeginning (span_row how report sent received span) mid new)
      → AppendsBeginning (front_rows how report sent all) old new
  read_begun new begun =
      part_begun (front_rows how report sent all) (span_row how report sent has.taken span)
      (span_rows how report sent (has.taken ++ messages_in (span ∷ [])) rest) old mid new has.written
      (begun has.taken has.audits has.is.place)

module _ (how : By) (report : Report) (sent : List Message) (all : List Span) (path : Ledger)
    (noted : Noted) (progress : Progress) (left size : ℕ) (old new : Option (List ℕ))
    (has : HasRead how report sent all [] path noted progress left size old new) where
  -- All are.
  pub read_all : Audits sent (messages_in all) path × (progress.bytes ≡ bytes_in all) × (progress.runs ≡ runs_in all)
      × (length (messages_in all) ≤ size) × (progress.messages ≡ length (messages_in all))
  read_all =
      let bytes = has.is.bytes in
      let runs = has.is.runs in
      let few = has.is.few in
      let long = ap length (has.is.messages ∙ append-nil has.taken) in (
        subst (λ l. Audits sent l path) (sym (has.is.messages ∙ append-nil has.taken)) has.audits,
        omega (arith, bytes),
        omega (arith, runs),
        omega (arith, few, long),
        has.is.place ∙ sym long,
      )

  pub read_notes : noted ≡ noted_of report.harts (known_all how sent) (known_all how (messages_in all))
  read_notes =
      has.notes.is
      ∙ ap (λ l. noted_of report.harts (known_all how sent) (known_all how l))
      (sym (has.is.messages ∙ append-nil has.taken))

  pub read_text : Appends old new (front_rows how report sent all)
  read_text = part_all (front_rows how report sent all) old new has.written
