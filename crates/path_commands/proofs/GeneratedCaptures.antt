-- What captures of harts whose messages are mixed are to an audit.
use Rattle.std.proofs.Common.{◌≡◌, ◌∙◌, ◌+◌, ◌<◌, ◌≤◌, All, ap, arith, refl, subst, sym, ℕ, List, [], ◌∷◌, ◌++◌}
use Rattle.std.proofs.Common.{Bool, true, false, ◌&&◌, ◌||◌, cond, get_or, ltb, not, Option, Some, None, length}
use Rattle.std.proofs.Common.{slice_get, suc, zero, zero-add}
use Rattle.std.proofs.lemmas.Option.{same_Some, slice_get-get_or}
use Rattle.std.proofs.lemmas.Bool.{eq-eqb, le-ltb, lt-ltb, ltb-false, ltb-true, true≢false}
use Rattle.std.proofs.lemmas.List.{append-nil, append_assoc}
use Rattle.std.proofs.lemmas.List.Elements.{All-cons, All-nil, All-weaker}
use Rattle.std.proofs.lemmas.List.Sums.{sum_by-cons}
use Rattle.std.specs.List.{count_by, list_any}
use Rattle.retire.specs.declared.event.Event.{Event}
use Rattle.rvclass.proofs.WordsLemmas.{words_of-IsProgram}
use Rattle.rvclass.specs.Fetch.{words_of}
use Rattle.rvclass.specs.Image.{Image}
use Rattle.legalpath.specs.ProgramLog.{ProgramLog, program_log}
use Rattle.encoder.specs.Payloads.{payloads}
use Rattle.message.proofs.OfHartLemmas.{of_hart-append, of_hart-others, of_hart-own}
use Rattle.message.specs.Cut.{IsMessage}
use Rattle.message.specs.Capture.{capture}
use Rattle.message.specs.Header.{IsHeader, IsMarked}
use Rattle.message.specs.Numbered.{messages_from}
use Rattle.message.specs.OfHart.{of_hart}
use Rattle.message.specs.Version.{most_harts}
use Rattle.message.specs.declared.fault.DemuxFault.TheVariants as demux
use Rattle.message.specs.declared.header.Header.{Header}
use Rattle.message.specs.declared.header.Version.{Version}
use Rattle.message.specs.declared.header.Version.TheVariants.{One, Two}
use Rattle.message.specs.declared.message.Message.{Message}
use Rattle.captures.proofs.Elements.{All-middle}
use Rattle.payload.specs.declared.mode.Mode.{Mode}
use Rattle.captures.proofs.LogMessages.{IsSent as IsSentByHart, all_sent, number-front, of_hart-log}
use Rattle.captures.proofs.SoundLogs.{sound_logs}
use Rattle.captures.specs.Decoded.{IsDecoded}
use Rattle.captures.specs.Messages.{messages_of_harts}
use Rattle.captures.specs.Returned.{IsLongLegalLog}
use Rattle.captures.specs.Versions.{header_of, start_bytes}
use Rattle.captures.specs.Whole.{BeginsWith, IsWhole}
use Rattle.captures.specs.declared.outcome.CaptureFault.{CaptureFault}
use Rattle.stimulus.specs.Mixed.{IsMixedCapture, events_of, plan_of}
use Rattle.stimulus.specs.Mixed.{header_of as asked_header}
use Rattle.stimulus.specs.declared.capturing.Capture.{Capture}
use Rattle.auditing.proofs.AllWhole.{untouched_same, whole_untouched}
use Rattle.auditing.specs.DecodedAgain.{AreAllWhole}
use Rattle.auditing.specs.Judged.{Judged, is_fate, judged}
use Rattle.auditing.specs.Sent.{AreInTurn, IsSent, known_harts, misplaced, misplaced_at}
use Rattle.auditing.specs.Untouched.{is_touched}
use Rattle.auditing.specs.declared.fate.Fate.{Fate}
use Rattle.auditing.specs.declared.fate.Fate.TheVariants as fate
use Rattle.path_commands.proofs.DecodedCaptures.{others_decode, unmarked}
use Rattle.path_commands.specs.DecodedLogs.{AreItsLogs, header_in}

-- A list with an element in its middle has one.
no_middle : {X : Type 0} (front : List X) (x : X) (rest : List X) → front ++ x ∷ rest ≡ [] → ⊥
no_middle [] x rest is = cc
no_middle (y ∷ front) x rest is = cc

-- A message with the number that comes next is in its place.
in_place : (next number : ℕ) → number ≡ next → misplaced_at (Some next) number ≡ None
in_place next number is =
    let low : ltb number next ≡ false = le-ltb number next (omega (arith, is)) in
    let high : ltb next number ≡ false = le-ltb next number (omega (arith, is)) in
    ap (λ b. cond b (Some demux.Repeat) (cond (ltb next number) (Some (demux.Gap next)) None)) low
    ∙ ap (λ b. cond b (Some (demux.Gap next)) None) high

-- The messages of a hart have these payloads, and are numbered from 0.
pub record IsNumbered (hart : ℕ) (messages : List Message) : Type 0 where
  pub payloads : List (List ℕ)
  pub own : of_hart hart messages ≡ messages_from hart 0 payloads

-- The messages of a hart, around one of its own.
parted : (before : List Message) (message : Message) (later : List Message)
    → of_hart message.hart (before ++ message ∷ later)
    ≡ of_hart message.hart before ++ message ∷ of_hart message.hart later
parted before message later =
    of_hart-append message.hart before (message ∷ later)
    ∙ ap (λ rest. of_hart message.hart before ++ rest) (of_hart-own message later)

module _ (harts : ℕ) where
  -- No hart but the first ones has a message.
  abbrev pub NoOthers : List Message → Type 0
  NoOthers messages = (hart : ℕ) → harts ≤ hart → of_hart hart messages ≡ []

  -- So each message is of one of these.
  known : (before : List Message) (message : Message) (later : List Message) → NoOthers (before ++ message ∷ later)
      → message.hart < harts
  known before message later none = go (ltb message.hart harts) refl
    where
      go : (b : Bool) → ltb message.hart harts ≡ b → message.hart < harts
      go true is = ltb-true message.hart harts is
      go false is = absurd (no_middle (of_hart message.hart before) message (of_hart message.hart later)
          (sym (parted before message later) ∙ none message.hart (ltb-false message.hart harts is)))

  here_in_turn : (before : List Message) (message : Message) (later : List Message)
      → IsNumbered message.hart (before ++ message ∷ later) → message.hart < harts
      → misplaced harts before message ≡ None
  here_in_turn before message later numbered within =
      let number = number-front message.hart 0 numbered.payloads (of_hart message.hart before) message
      (of_hart message.hart later) (sym numbered.own ∙ parted before message later) in
      let is : ltb message.hart harts ≡ true = lt-ltb message.hart harts within in
      ap (λ b. misplaced_at (cond b (Some (length (of_hart message.hart before))) None) message.number) is
      ∙ in_place (length (of_hart message.hart before)) message.number (omega (arith, number))

  -- Each of the messages is the next one of its hart, where those of each hart are numbered from 0.
  pub all_in_turn : (before later : List Message)
      → ((hart : ℕ) → hart < harts → IsNumbered hart (before ++ later)) → NoOthers (before ++ later)
      → AreInTurn harts before later
  all_in_turn before [] each none = tt
  all_in_turn before (message ∷ later) each none =
      let within = known before message later none in
      let again = sym (append_assoc before (message ∷ []) later) in (
        here_in_turn before message later (each message.hart within) within,
        all_in_turn (before ++ message ∷ []) later (λ hart is. subst (IsNumbered hart) again (each hart is))
            (subst NoOthers again none),
      )

  module _ (P : Message → Type 0) where
    -- What holds of the messages of each hart holds of all.
    pub all_hold : (before later : List Message)
        → ((hart : ℕ) → hart < harts → All P (of_hart hart (before ++ later))) → NoOthers (before ++ later)
        → All P later
    all_hold before [] each none = All-nil P
    all_hold before (message ∷ later) each none =
        let within = known before message later none in
        let again = sym (append_assoc before (message ∷ []) later) in
        All-cons P message later
        (All-middle P (of_hart message.hart before) message (of_hart message.hart later)
        (subst (All P) (parted before message later) (each message.hart within)))
        (all_hold (before ++ message ∷ []) later
        (λ hart is. subst (λ messages. All P (of_hart hart messages)) again (each hart is)) (subst NoOthers again none))

-- What came in order is no stranger.
no_stranger : (its : Fate) → not (is_fate fate.InOrder its) ≡ false → is_fate fate.Stranger its ≡ false
no_stranger fate.Stranger is = absurd (true≢false is)
no_stranger fate.Changed is = refl
no_stranger fate.Repeat is = refl
no_stranger fate.Late is = refl
no_stranger fate.InOrder is = refl

first_false : (a b : Bool) → (a || b) ≡ false → a ≡ false
first_false true b is = absurd (true≢false is)
first_false false b is = refl

second_false : (a b : Bool) → (a || b) ≡ false → b ≡ false
second_false true b is = absurd (true≢false is)
second_false false b is = is

-- Where nothing befell the messages of any hart, none is a stranger.
no_strangers : (ones : List Judged) → ((hart : ℕ) → list_any (is_touched hart) ones ≡ false)
    → count_by (λ (one : Judged). is_fate fate.Stranger one.fate) ones ≡ 0
no_strangers [] untouched = refl
no_strangers (one ∷ ones) untouched =
    let hart = one.message.hart in
    let here = first_false (is_touched hart one) (list_any (is_touched hart) ones) (untouched hart) in
    let own : not (is_fate fate.InOrder one.fate) ≡ false =
    sym (ap (λ b. b && not (is_fate fate.InOrder one.fate)) (eq-eqb hart hart refl)) ∙ here in
    let later = no_strangers ones (λ other. second_false (is_touched other one) (list_any (is_touched other) ones)
    (untouched other)) in
    let none = no_stranger one.fate own in
    sum_by-cons (λ (one : Judged). cond (is_fate fate.Stranger one.fate) 1 0) one ones
    ∙ ap (λ b. cond b 1 0 + count_by (λ (one : Judged). is_fate fate.Stranger one.fate) ones) none
    ∙ zero-add (count_by (λ (one : Judged). is_fate fate.Stranger one.fate) ones) ∙ later

module _ (harts : ℕ) (messages others : List Message) (turn : AreInTurn harts [] messages)
    (same : (hart : ℕ) → of_hart hart others ≡ of_hart hart messages) where
  -- Messages that are in turn are whole where the same come of each hart.
  pub whole_alike : (header : Option Header) → AreAllWhole header messages others
  whole_alike header = record {
    harts = λ hart is. (whole_untouched harts hart messages others turn).1
        ((untouched_same harts hart messages others turn).1 (same hart));
    strangers = no_strangers (judged messages others)
        (λ hart. ((untouched_same harts hart messages others turn).1 (same hart)).in_order);
  }

-- Of harts behind these logs there is no message.
none_from : (hart other number : ℕ) (payloads : List (List ℕ)) → other < hart
    → of_hart hart (messages_from other number payloads) ≡ []
none_from hart other number [] below = refl
none_from hart other number (payload ∷ payloads) below =
    of_hart-others hart (record { hart = other; number = number; payload = payload })
    (messages_from other (number + 1) payloads) (λ same. omega (arith, same, below))
    ∙ none_from hart other (number + 1) payloads below

pub none_behind : (period : ℕ) (mode : Mode) (hart first : ℕ) (logs : List ProgramLog) → first + length logs ≤ hart
    → of_hart hart (messages_of_harts period mode first logs) ≡ []
none_behind period mode hart first [] behind = refl
none_behind period mode hart first (log ∷ logs) behind =
    of_hart-append hart (messages_from first 0 (payloads period mode log))
    (messages_of_harts period mode (first + 1) logs)
    ∙ ap (λ none. none ++ of_hart hart (messages_of_harts period mode (first + 1) logs))
    (none_from hart first 0 (payloads period mode log) (omega (arith, behind)))
    ∙ none_behind period mode hart (first + 1) logs (omega (arith, behind))

module _ (program : Image) (asked : Capture) (start : IsHeader (asked_header asked)) (bytes : List ℕ)
    (made : IsMixedCapture program asked bytes) where
  abbrev header : Header
  header = asked_header asked

  -- The log of a hart.
  abbrev log_of : ℕ → ProgramLog
  log_of hart =
      program_log program (events_of (words_of program) (plan_of program asked) hart (made.counts hart))

  numbered : (hart : ℕ) → IsNumbered hart made.messages
  numbered hart = by (ltb hart header.harts) refl
    where
      by : (b : Bool) → ltb hart header.harts ≡ b → IsNumbered hart made.messages
      by true is = record {
        payloads = payloads header.period header.mode (log_of hart);
        own = (made.each hart (ltb-true hart header.harts is)).own;
      }
      by false is = record { payloads = []; own = made.none hart (ltb-false hart header.harts is) }

  -- The messages of a hart are within their ranges.
  ranges_of : (hart : ℕ) → hart < header.harts → All IsMessage (of_hart hart made.messages)
  ranges_of hart is =
      let sends = made.each hart is in
      let log = log_of hart in
      let few = start.harts in
      let sent = all_sent header.period header.mode header.harts hart (log ∷ []) (omega (arith, is))
      (omega (arith, few)) (sound_logs header.period header.mode (log ∷ [])
      (All-cons IsLongLegalLog log [] sends.legal (All-nil IsLongLegalLog))) in
      subst (All IsMessage) (append-nil (messages_from hart 0 (payloads header.period header.mode log)) ∙ sym sends.own)
      (All-weaker (IsSentByHart header.harts) IsMessage (λ message is. is.ranges)
      (messages_of_harts header.period header.mode hart (log ∷ [])) sent)

  all_in_range : All IsMessage made.messages
  all_in_range = all_hold header.harts IsMessage [] made.messages ranges_of made.none

  -- The capture may be what was sent.
  pub mixed_sent : IsSent bytes (header_in asked.version header) made.messages
  mixed_sent = record {
    whole = record { ranges = all_in_range; whole = begins asked.version made.whole };
    in_turn = in_turn asked.version;
  }
    where
      begins : (version : Version) → bytes ≡ start_bytes version header ++ capture made.messages
          → BeginsWith (header_in version header) bytes (capture made.messages)
      begins One is = ((λ marked. unmarked made.messages all_in_range (subst IsMarked is marked)), is)
      begins Two is = (start, is)

      in_turn : (version : Version) → AreInTurn (known_harts (header_in version header)) [] made.messages
      in_turn One =
          let few = start.harts in
          all_in_turn (most_harts Two) [] made.messages (λ hart is. numbered hart)
          (λ hart past. made.none hart (omega (arith, past, few)))
      in_turn Two = all_in_turn header.harts [] made.messages (λ hart is. numbered hart) made.none

  -- And it is whole where the same messages come of each hart.
  pub mixed_whole : (others : List Message) → ((hart : ℕ) → of_hart hart others ≡ of_hart hart made.messages)
      → AreAllWhole (header_in asked.version header) made.messages others
  mixed_whole others same =
      whole_alike (known_harts (header_in asked.version header)) made.messages others mixed_sent.in_turn same
      (header_in asked.version header)

  -- The logs of the harts from this one on.
  record LogsFrom (first count : ℕ) : Type 0 where
    logs : List ProgramLog
    counted : length logs ≡ count
    legal : All IsLongLegalLog logs
    same : All (λ (log : ProgramLog). log.program ≡ program) logs
    each : (k : ℕ) (log : ProgramLog) → slice_get logs k ≡ Some log
        → of_hart (first + k) made.messages ≡ messages_from (first + k) 0 (payloads header.period header.mode log)

  logs_from : (first count : ℕ) → first + count ≡ header.harts → LogsFrom first count
  logs_from first zero room = record {
    logs = [];
    counted = refl;
    legal = All-nil IsLongLegalLog;
    same = All-nil (λ (log : ProgramLog). log.program ≡ program);
    each = λ k log at. cc;
  }
  logs_from first (suc count) room =
      let sends = made.each first (omega (arith, room)) in
      let log = log_of first in
      let rest = logs_from (first + 1) count (omega (arith, room)) in record {
        logs = log ∷ rest.logs;
        counted = ap suc rest.counted;
        legal = All-cons IsLongLegalLog log rest.logs sends.legal rest.legal;
        same = All-cons (λ (log : ProgramLog). log.program ≡ program) log rest.logs refl rest.same;
        each = each_of log.events sends.own rest;
      }
    where
      each_of : (events : List Event)
          → of_hart first made.messages
          ≡ messages_from first 0 (payloads header.period header.mode (program_log program events))
          → (rest : LogsFrom (first + 1) count) → (k : ℕ) (log : ProgramLog)
          → slice_get (program_log program events ∷ rest.logs) k ≡ Some log
          → of_hart (first + k) made.messages
          ≡ messages_from (first + k) 0 (payloads header.period header.mode log)
      each_of events own rest zero log at =
          let here : first ≡ first + 0 = omega arith in
          let is : program_log program events ≡ log = same_Some (program_log program events) log at in
          subst (λ (hart : ℕ). of_hart hart made.messages ≡ messages_from hart 0 (payloads header.period header.mode log))
          here (own ∙ ap (λ (l : ProgramLog). messages_from first 0 (payloads header.period header.mode l)) is)
      each_of events own rest (suc k) log at =
          let there : first + 1 + k ≡ first + suc k = omega arith in
          subst (λ (hart : ℕ). of_hart hart made.messages ≡ messages_from hart 0 (payloads header.period header.mode log))
          there (rest.each k log at)

  all_logs : LogsFrom 0 header.harts
  all_logs = logs_from 0 header.harts (omega arith)

  -- Each hart's messages are those of its log.
  sent_logs : (hart : ℕ)
      → of_hart hart made.messages ≡ of_hart hart (messages_of_harts header.period header.mode 0 all_logs.logs)
  sent_logs hart = by (ltb hart header.harts) refl
    where
      count : length all_logs.logs ≡ header.harts
      count = all_logs.counted

      by : (b : Bool) → ltb hart header.harts ≡ b → of_hart hart made.messages
          ≡ of_hart hart (messages_of_harts header.period header.mode 0 all_logs.logs)
      by true is =
          let log = get_or all_logs.logs hart (program_log program []) in
          let at : slice_get all_logs.logs hart ≡ Some log =
          slice_get-get_or all_logs.logs hart (program_log program [])
          (omega (arith, count, ltb-true hart header.harts is)) in
          let here : 0 + hart ≡ hart = omega arith in
          subst (λ (h : ℕ). of_hart h made.messages ≡ messages_from h 0 (payloads header.period header.mode log)) here
          (all_logs.each hart log at)
          ∙ sym (of_hart-log header.period header.mode 0 hart hart all_logs.logs log (omega arith) at)
      by false is =
          let past = ltb-false hart header.harts is in
          made.none hart (omega (arith, past))
          ∙ sym (none_behind header.period header.mode hart 0 all_logs.logs (omega (arith, past, count)))

  -- The header is that of these logs.
  abbrev with_harts : ℕ → Header
  with_harts harts = record { mode = header.mode; period = header.period; harts = harts }

  header_is : header_of header.period header.mode all_logs.logs ≡ header
  header_is = ap with_harts all_logs.counted

  -- The capture decodes to them.
  pub mixed_decodes : (harts : ℕ) → (asked.version ≡ One → harts ≡ header.harts) → (lists : List (List Event))
      (closed : List Bool) (stop : Option (ℕ × CaptureFault))
      → IsDecoded (words_of program) harts bytes lists closed stop
      → AreItsLogs program header made.messages lists closed stop
  mixed_decodes harts known lists closed stop decoded =
      let some = start.some_harts in
      let few = start.harts in
      let image = (made.each 0 (omega (arith, some))).legal.image in record {
        logs = all_logs.logs;
        count = all_logs.counted;
        legal = all_logs.legal;
        same = all_logs.same;
        sent = sent_logs;
        returned =
            others_decode program header.period header.mode all_logs.logs all_logs.legal all_logs.same
            (omega (arith, few, all_logs.counted)) (words_of-IsProgram program image)
            (subst IsHeader (sym header_is) start) asked.version harts
            (λ one. known one ∙ sym all_logs.counted) bytes made.messages
            (subst (λ (h : Header). IsWhole bytes (header_in asked.version h) made.messages) (sym header_is)
            mixed_sent.whole)
            sent_logs lists closed stop decoded;
      }
