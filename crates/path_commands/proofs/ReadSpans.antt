-- RECEIVED, read by the payloads that were sent.
use Rattle.std.proofs.Common.{◌≡◌, ◌∙◌, ℕ, ◌+◌, ◌^◌, ◌<◌, ◌≤◌, Bool, List, [], ◌∷◌, ◌++◌, Option, Some, None, drop, length}
use Rattle.std.proofs.Common.{Result, Ok, Err, drop_at, refl, sym, ap, subst, arith, append-nil}
use Rattle.std.proofs.lemmas.List.{append_assoc, length-map, length_push}
use Rattle.std.specs.Prelude.{IfOk, OnOk}
use Rattle.payload.specs.declared.by.By.{By}
use Rattle.message.specs.Capture.{capture, message_bytes}
use Rattle.message.specs.Header.{header_bytes}
use Rattle.message.specs.declared.fault.MessageFault.{MessageFault}
use Rattle.message.specs.declared.header.Header.{Header}
use Rattle.message.specs.declared.message.Message.{Message}
use Rattle.message.specs.declared.range.HartRange.{HartRange}
use Rattle.captures.specs.Whole.{BeginsWith, IsWhole}
use Rattle.frames.specs.Counted.{bytes_in, messages_in, runs_in, span_size}
use Rattle.frames.specs.Framed.{is_framed}
use Rattle.frames.specs.Passages.{Left, Sees, spans_from, spans_left}
use Rattle.frames.specs.Start.{IsStart, first_place}
use Rattle.frames.specs.Written.{frames_from}
use Rattle.frames.specs.declared.span.Span.{Span}
use Rattle.frames.specs.declared.span.Span.TheVariants.{Frame, Bytes}
use Rattle.auditing.proofs.Recognised.{framed-taken}
use Rattle.auditing.proofs.Recognised.{sight_of_kept}
use Rattle.auditing.specs.PayloadSights.{KeepsPayloads, KnownSent, payload_sight, sight_kept}
use Rattle.auditing.specs.PayloadSights.{payload_spans}
use Rattle.path_commands.proofs.SpanRows.{IsProgress, progress_more}
use Rattle.path_commands.specs.ReceivedCapture.{IsReadByPayloads}
use Rattle.path_commands.specs.Unnumbered.{byte_runs}
use Rattle.path_commands.specs.declared.by_hart.ByHart.{ByHart}
use Rattle.path_commands.specs.declared.reading.Received.{Received}
use Rattle.path_commands.specs.steps.Reading.{progress_after}
use Rattle.path_commands.specs.steps.Matching.{IsByHart, IsFresh, KeepsSpans, ReadsCame, TakesSpan, capture_with}

-- What is behind a header, or all where there is none.
pub body_is : (bytes rest : List ℕ) (header : Option Header) → BeginsWith header bytes rest
    → drop (first_place header) bytes ≡ rest
body_is bytes rest None begins = begins.1
body_is bytes rest (Some header) begins =
    ap (drop (length (header_bytes header))) begins.1 ∙ drop_at (header_bytes header) rest (length (header_bytes header)) refl

-- Messages one after the other have no bytes between them.
written-messages : (offset : ℕ) (ms : List Message) → messages_in (frames_from offset ms) ≡ ms
written-messages offset [] = refl
written-messages offset (m ∷ ms) = ap (λ (l : List Message). m ∷ l) (written-messages (offset + length (message_bytes m)) ms)

written-bytes : (offset : ℕ) (ms : List Message) → bytes_in (frames_from offset ms) ≡ 0
written-bytes offset [] = refl
written-bytes offset (m ∷ ms) = written-bytes (offset + length (message_bytes m)) ms

written-runs : (offset : ℕ) (ms : List Message) → runs_in (frames_from offset ms) ≡ 0
written-runs offset [] = refl
written-runs offset (m ∷ ms) = written-runs (offset + length (message_bytes m)) ms

written-none : (place offset : ℕ) (ms : List Message) → byte_runs place (frames_from offset ms) ≡ []
written-none place offset [] = refl
written-none place offset (m ∷ ms) = written-none (place + 1) (offset + length (message_bytes m)) ms

-- A capture that is messages to its end is read so, whatever was sent.
pub reads_whole : (how : By) (sent : List Message) (harts : HartRange) (count : ℕ) (bytes : List ℕ) (messages : List Message)
    (own : Received) → IsWhole bytes own.header messages → own.fault ≡ None → IsByHart harts messages own.lists
    → own.lists.payloads.by ≡ how → length own.lists.payloads.lists ≡ count
    → own.runs.items ≡ [] → own.read.bytes ≡ 0 → own.read.runs ≡ 0 → ReadsCame how sent harts count bytes own
reads_whole how sent harts count bytes messages own whole fault lists by each none no_bytes no_runs =
    let from = first_place own.header in
    let all = frames_from from messages in
    let body = body_is bytes (capture messages) own.header whole.whole in
    record {
      spans = all;
      is_came = record {
        start = subst (IsStart bytes own.header) (sym fault) (capture messages, whole.whole);
        spans = sym (ap (payload_spans how sent from) body ∙ framed-taken how sent from messages whole.ranges);
      };
      kept = record {
        lists = subst (λ l. IsByHart harts l own.lists) (sym (written-messages from messages)) lists;
        runs = none ∙ sym (written-none 0 from messages);
        bytes = no_bytes ∙ sym (written-bytes from messages);
        count = no_runs ∙ sym (written-runs from messages);
      };
      by = by;
      each = each;
    }

-- Some spans were taken; these are left, of which so many bytes are.
pub record HasTaken (harts : HartRange) (each : ℕ) (all rest : List Span) (own : Received) (left size : ℕ) : Type 0 where
  pub messages : List Message
  pub lists : IsByHart harts messages own.lists
  pub count : length own.lists.payloads.lists ≡ each
  pub runs : byte_runs 0 all ≡ own.runs.items ++ byte_runs (length messages) rest
  pub is : IsProgress all rest [] messages own.read left size

-- At first none is.
pub taken_none : (harts : HartRange) (all : List Span) (own : Received) (size : ℕ) → IsFresh harts own
    → HasTaken harts (length own.lists.payloads.lists) all all own size size
taken_none harts all own size fresh = record {
  messages = [];
  lists = fresh.lists;
  count = refl;
  runs = sym (ap (λ l. l ++ byte_runs 0 all) fresh.runs);
  is = subst (λ p. IsProgress all all [] [] p size size) (sym fresh.read) (record {
    messages = refl;
    place = refl;
    bytes = omega arith;
    runs = omega arith;
    few = omega arith;
    most = omega arith;
  });
}

-- The runs with one span more.
runs_more : (span : Span) (rest : List Span) (messages : List Message)
    → byte_runs (length messages) (span ∷ rest)
    ≡ byte_runs (length messages) (span ∷ []) ++ byte_runs (length (messages ++ messages_in (span ∷ []))) rest
runs_more (Frame offset message) rest messages =
    ap (λ n. byte_runs n rest) (sym (length_push messages message))
runs_more (Bytes offset count) rest messages =
    ap (λ l. record { place = length messages; offset = offset; count = count } ∷ byte_runs (length l) rest)
    (sym (append-nil messages))

-- One span more is.
pub taken_more : (harts : HartRange) (each : ℕ) (all rest : List Span) (own new : Received) (left next size : ℕ) (span : Span)
    → size < 2 ^ 64 → 1 ≤ span_size span → span_size span + next ≡ left
    → HasTaken harts each all (span ∷ rest) own left size → TakesSpan harts span own new
    → HasTaken harts each all rest new next size
taken_more harts each all rest own new left next size span short some sized has takes =
    let place : length own.lists.harts.items ≡ length has.messages =
    ap length has.lists.each ∙ length-map has.messages (λ (m : Message). m.hart) in
    let more = byte_runs (length (has.messages ++ messages_in (span ∷ []))) rest in
    record {
      messages = has.messages ++ messages_in (span ∷ []);
      lists = (takes.lists has.messages has.lists).0;
      count = (takes.lists has.messages has.lists).1 ∙ has.count;
      runs =
          has.runs ∙ ap (λ l. own.runs.items ++ l) (runs_more span rest has.messages)
          ∙ sym (append_assoc own.runs.items (byte_runs (length has.messages) (span ∷ [])) more)
          ∙ ap (λ l. l ++ more)
          (sym (takes.runs ∙ ap (λ n. own.runs.items ++ byte_runs n (span ∷ [])) place));
      is =
          subst (λ p. IsProgress all rest [] (has.messages ++ messages_in (span ∷ [])) p next size) (sym takes.read)
          (progress_more all rest [] has.messages own.read left next size span short some sized has.is);
    }

-- A message is kept, unless an allocation failed.
pub takes_message : {T E : Type 0} (harts : HartRange) (span : Span) (offset : ℕ) (message : Message) (own new : Received)
    (r : Result T E) → span ≡ Frame offset message
    → new.header ≡ own.header → new.fault ≡ own.fault → new.lists.payloads.by ≡ own.lists.payloads.by
    → new.runs.items ≡ own.runs.items → new.read ≡ progress_after own.read (Frame offset message)
    → ((messages : List Message) → IsByHart harts messages own.lists
    → OnOk r (IsByHart harts (messages ++ message ∷ []) new.lists
    × (length new.lists.payloads.lists ≡ length own.lists.payloads.lists)))
    → OnOk r (TakesSpan harts span own new)
takes_message harts span offset message own new (Ok x) is header fault by runs read lists =
    subst (λ s. TakesSpan harts s own new) (sym is) (record {
      header = header;
      fault = fault;
      lists = lists;
      by = by;
      runs = runs ∙ sym (append-nil own.runs.items);
      read = read;
    })
takes_message harts span offset message own new (Err e) is header fault by runs read lists = tt

-- And so is a run of bytes.
pub takes_run : (harts : HartRange) (span : Span) (offset count : ℕ) (own new : Received) → span ≡ Bytes offset count
    → new.header ≡ own.header → new.fault ≡ own.fault → new.lists ≡ own.lists
    → new.runs.items ≡ own.runs.items ++ byte_runs (length own.lists.harts.items) (Bytes offset count ∷ [])
    → new.read ≡ progress_after own.read (Bytes offset count) → TakesSpan harts span own new
takes_run harts span offset count own new is header fault lists runs read =
    subst (λ s. TakesSpan harts s own new) (sym is) (record {
      header = header;
      fault = fault;
      lists =
          λ messages has. (
            subst (λ l. IsByHart harts (messages ++ []) l) (sym lists)
                (subst (λ m. IsByHart harts m own.lists) (sym (append-nil messages)) has),
            ap (λ (l : ByHart). length l.payloads.lists) lists,
          );
      by = ap (λ (l : ByHart). l.payloads.by) lists;
      runs = runs;
      read = read;
    })

-- All are.
pub taken_all : (harts : HartRange) (each : ℕ) (all : List Span) (own : Received) (left size : ℕ)
    → HasTaken harts each all [] own left size → KeepsSpans harts all own × (length own.lists.payloads.lists ≡ each)
taken_all harts each all own left size has =
    let bytes = has.is.bytes in
    let runs = has.is.runs in (
      record {
        lists = subst (λ l. IsByHart harts l own.lists) (sym (has.is.messages ∙ append-nil has.messages)) has.lists;
        runs = sym (has.runs ∙ append-nil own.runs.items);
        bytes = omega (arith, bytes);
        count = omega (arith, runs);
      },
      has.count,
    )

-- RECEIVED is read by the payloads of SENT, unless an allocation failed.
module _ (how : By) (sent : List Message) (harts : HartRange) (count : ℕ) (bytes : List ℕ) (header : Option Header)
    (fault : Option MessageFault) (start : IsStart bytes header fault) (framed : Bool) (known : KnownSent)
    (framed_is : framed ≡ is_framed (drop (first_place header) bytes)) (keeps : KeepsPayloads framed how sent known)
    (left : Left)
    (left_is : (sees : Sees) → spans_left sees left
    ≡ spans_from sees (first_place header) (drop (first_place header) bytes)) where
  abbrev sees : Sees
  sees = payload_sight framed how sent

  same : (message : Message) → sight_kept known message ≡ sees message
  same message = sight_of_kept framed how sent known message keeps

  spans_are : spans_left sees left ≡ payload_spans how sent (first_place header) (drop (first_place header) bytes)
  spans_are =
      left_is sees
      ∙ ap (λ (f : Bool). spans_from (payload_sight f how sent) (first_place header) (drop (first_place header) bytes))
      framed_is

  came_by : (own : Received) → own.header ≡ header → own.fault ≡ fault
      → IsReadByPayloads how sent bytes (capture_with own (payload_spans how sent (first_place header)
      (drop (first_place header) bytes)))
  came_by own header_is fault_is = record {
    start =
        subst (IsStart bytes own.header) (sym fault_is)
        (subst (λ (h : Option Header). IsStart bytes h fault) (sym header_is) start);
    spans =
        ap (λ (h : Option Header). payload_spans how sent (first_place h) (drop (first_place h) bytes)) (sym header_is);
  }

  pub reads_spans : {E : Type 0} (found : Result Received E) → IfOk found (λ own. own.header ≡ header)
      → IfOk found (λ own. own.fault ≡ fault) → (by : By) → by ≡ how
      → IfOk found (λ own. own.lists.payloads.by ≡ by) → (many : ℕ) → many ≡ count
      → (((message : Message) → sight_kept known message ≡ sees message)
      → IfOk found (λ own. KeepsSpans harts (spans_left sees left) own × (length own.lists.payloads.lists ≡ many)))
      → IfOk found (ReadsCame how sent harts count bytes)
  reads_spans (Err e) header_is fault_is by is own_is many many_is kept = tt
  reads_spans (Ok own) header_is fault_is by is own_is many many_is kept =
      let its = kept same in
      record {
        spans = payload_spans how sent (first_place header) (drop (first_place header) bytes);
        is_came = came_by own header_is fault_is;
        kept = subst (λ (s : List Span). KeepsSpans harts s own) spans_are its.0;
        by = own_is ∙ is;
        each = its.1 ∙ many_is;
      }
