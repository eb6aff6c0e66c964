-- What captures decode to that have the messages of legal logs, in whatever order.
use Rattle.std.proofs.Common.{◌≡◌, ◌∙◌, ◌<◌, ◌≤◌, ◌^◌, ◌++◌, All, ap, arith, refl, subst, sym, ℕ, Bool, true}
use Rattle.std.proofs.Common.{List, [], ◌∷◌, Option, Some, None, Result, Ok, append-nil, get_or, length, map, replicate, slice_get}
use Rattle.std.proofs.lemmas.List.{append_assoc, get_or-map, get_or-replicate, length-map, length-replicate}
use Rattle.std.proofs.lemmas.List.Elements.{All-cons, All-head, All-nil}
use Rattle.std.proofs.lemmas.Option.{same_Some, slice_get-get_or, slice_get_within}
use Rattle.retire.specs.declared.event.Event.{Event}
use Rattle.rvclass.specs.Fetch.{words_of}
use Rattle.rvclass.proofs.WordsLemmas.{words_of-IsProgram}
use Rattle.rvclass.specs.Image.{Image, IsImage}
use Rattle.rvclass.specs.Words.{IsProgram}
use Rattle.legalpath.specs.ProgramLog.{ProgramLog, program_log}
use Rattle.payload.specs.declared.by.By.TheVariants as by
use Rattle.payload.specs.declared.fault.PackFault.{PackFault}
use Rattle.payload.specs.declared.mode.Mode.{Mode}
use Rattle.payload.specs.declared.packet.Packet.{Packet}
use Rattle.decoder.specs.Describes.{Describes}
use Rattle.message.proofs.Selecting.{all_selected}
use Rattle.message.proofs.AcceptedLemmas.{AreAccepted-next}
use Rattle.message.proofs.Answering.{answer-unpacked}
use Rattle.message.specs.Accepted.{AreAccepted, expected_after, newcomers}
use Rattle.message.specs.Capture.{capture}
use Rattle.message.proofs.StartsRead.{never_both}
use Rattle.message.specs.Cut.{IsMessage}
use Rattle.message.specs.Header.{IsHeader, IsMarked, header_bytes}
use Rattle.message.specs.OfHart.{of_hart, packets_of}
use Rattle.message.specs.declared.header.Version.{Version}
use Rattle.message.specs.declared.header.Version.TheVariants.{One, Two}
use Rattle.message.specs.declared.message.Message.{Message}
use Rattle.receiver.specs.Agreeing.{Agrees, opens_another}
use Rattle.receiver.specs.Holds.{AreDecoded}
use Rattle.captures.proofs.NextMessages.{all_ranges, log_described, log_ended, next_message}
use Rattle.captures.specs.Decoded.{IsDecoded, Version1, Version2}
use Rattle.captures.specs.Messages.{messages_of_harts}
use Rattle.captures.specs.Returned.{AreReturned, IsLongLegalLog}
use Rattle.captures.specs.Versions.{header_of}
use Rattle.captures.specs.Whole.{IsWhole}
use Rattle.captures.specs.declared.outcome.CaptureFault.{CaptureFault}
use Rattle.auditing.proofs.DecodedAgain.{decoded_again}
use Rattle.auditing.specs.DecodedAgain.{AreDecodedAgain}
use Rattle.auditing.specs.Known.{known_all}
use Rattle.path_commands.specs.DecodedLogs.{header_in}

-- The events of a log.
abbrev events_of : ProgramLog → List Event
events_of log = log.events

-- A payload unpacks to one packet.
same_packet : (packet own : Packet) → ◌≡◌ {A = Result Packet PackFault} (Ok packet) (Ok own) → packet ≡ own
same_packet packet own is = cc

-- What came once more is what comes back.
returned : (logs : List ProgramLog) (lists again : List (List Event)) (closed flags : List Bool)
    (stop : Option (ℕ × CaptureFault)) → lists ≡ map events_of logs → closed ≡ replicate (length logs) true
    → AreDecodedAgain lists closed again flags stop → AreReturned logs again flags stop
returned logs lists again closed flags None lists_are closed_are same = (same.0 ∙ lists_are, same.1 ∙ closed_are)
returned logs lists again closed flags (Some stop) lists_are closed_are memory = memory

-- Messages do not begin with the mark of version 2.
pub unmarked : (messages : List Message) → All IsMessage messages → ¬ IsMarked (capture messages)
unmarked [] ranges marked = let count = ap length marked.1 in omega (arith, count)
unmarked (message ∷ messages) ranges marked =
    never_both message (capture messages) marked.0 (All-head IsMessage message messages ranges) marked.1

-- Where no mode is announced, none is another.
agree_with_none : (messages : List Message) → All (Agrees None) messages
agree_with_none [] = All-nil (Agrees None)
agree_with_none (message ∷ messages) =
    All-cons (Agrees None) message messages (λ packet is. refl) (agree_with_none messages)

module _ (program : Image) (period : ℕ) (mode : Mode) (logs : List ProgramLog)
    (legal : All IsLongLegalLog logs) (all_same : All (λ (log : ProgramLog). log.program ≡ program) logs)
    (few : length logs ≤ 2 ^ 16) where
  abbrev all : List Message
  all = messages_of_harts period mode 0 logs

  abbrev harts : ℕ
  harts = length logs

  -- All of them are accepted, where the first ones are.
  accepted_from : (front later : List Message) → all ≡ front ++ later → AreAccepted (newcomers harts) front
      → AreAccepted (newcomers harts) all
  accepted_from front [] whole accepted =
      subst (AreAccepted (newcomers harts)) (sym (whole ∙ append-nil front)) accepted
  accepted_from front (message ∷ later) whole accepted =
      let next = next_message program period mode logs legal all_same few front message later whole in
      accepted_from (front ++ message ∷ []) later (whole ∙ sym (append_assoc front (message ∷ []) later))
      (AreAccepted-next (newcomers harts) front message next.packet accepted (next.taken accepted))

  -- None of those behind them opens a trace in another mode.
  agree_from : (front later : List Message) → all ≡ front ++ later → AreAccepted (newcomers harts) front
      → All (Agrees (Some mode)) later
  agree_from front [] whole accepted = All-nil (Agrees (Some mode))
  agree_from front (message ∷ later) whole accepted =
      let next = next_message program period mode logs legal all_same few front message later whole in
      let read = ((answer-unpacked (slice_get (expected_after (newcomers harts) front) message.hart) message
      (Ok next.packet)).0 (next.taken accepted)).1 in
      All-cons (Agrees (Some mode)) message later
      (λ packet is. ap (opens_another (Some mode)) (same_packet packet next.packet (sym is ∙ read)) ∙ next.agrees)
      (agree_from (front ++ message ∷ []) later (whole ∙ sym (append_assoc front (message ∷ []) later))
      (AreAccepted-next (newcomers harts) front message next.packet accepted (next.taken accepted)))

  -- The log at a place.
  log_at : ℕ → ProgramLog
  log_at k = get_or logs k (program_log program [])

  -- They decode to the logs.
  all_decoded : AreDecoded (λ hart. words_of program) harts all (map events_of logs) (replicate harts true)
  unfolding log_at
  all_decoded = record {
    lists_count = length-map logs events_of;
    closed_count = length-replicate harts true;
    described = λ hart list at.
        let within = slice_get_within (map events_of logs) hart list at in
        let known : hart < harts = omega (arith, within, length-map logs events_of) in
        let is : list ≡ (log_at hart).events =
        same_Some list _ (sym at ∙ slice_get-get_or (map events_of logs) hart [] within)
        ∙ get_or-map events_of logs hart (program_log program []) [] known in
        subst (Describes (words_of program) (packets_of hart all)) (sym is)
        (log_described program period mode logs legal all_same few hart (log_at hart)
        (slice_get-get_or logs hart (program_log program []) known));
    are_closed = λ hart is_closed at.
        let within = slice_get_within (replicate harts true) hart is_closed at in
        let known : hart < harts = omega (arith, within, length-replicate harts true) in
        same_Some is_closed true (sym at ∙ slice_get-get_or (replicate harts true) hart true within
        ∙ ap Some (get_or-replicate harts hart true true known))
        ∙ sym (log_ended program period mode logs legal all_same few hart (log_at hart)
        (slice_get-get_or logs hart (program_log program []) known));
  }

  -- So there is what the capture of all of them decodes to, without a fault.
  abbrev sent : List ℕ
  sent = header_bytes (header_of period mode logs) ++ capture all

  sent_decodes : (asked : ℕ) → IsHeader (header_of period mode logs)
      → IsDecoded (words_of program) asked sent (map events_of logs) (replicate harts true) None
  sent_decodes asked is =
      let ranges = all_ranges program period mode logs legal all_same few in
      let every = sym (all_selected all ranges) in
      Version2 (header_of period mode logs) (capture all) is refl (record {
        messages = all;
        rest = [];
        ranges = ranges;
        whole = sym (append-nil (capture all));
        accepted = subst (AreAccepted (newcomers harts)) every (accepted_from [] all refl tt);
        agree = subst (All (Agrees (Some mode))) every (agree_from [] all refl tt);
        decoded = subst (λ (messages : List Message).
            AreDecoded (λ hart. words_of program) harts messages (map events_of logs) (replicate harts true)) every
            all_decoded;
        stops = refl;
      })

  -- And in version 1 too, where so many harts are asked for.
  sent_plain : IsDecoded (words_of program) harts (capture all) (map events_of logs) (replicate harts true) None
  sent_plain =
      let ranges = all_ranges program period mode logs legal all_same few in
      let every = sym (all_selected all ranges) in
      Version1 (unmarked all ranges) (record {
        messages = all;
        rest = [];
        ranges = ranges;
        whole = sym (append-nil (capture all));
        accepted = subst (AreAccepted (newcomers harts)) every (accepted_from [] all refl tt);
        agree = subst (All (Agrees None)) every (agree_with_none all);
        decoded = subst (λ (messages : List Message).
            AreDecoded (λ hart. words_of program) harts messages (map events_of logs) (replicate harts true)) every
            all_decoded;
        stops = refl;
      })

  -- A capture in which each hart has the same messages decodes to the logs.
  pub others_decode : IsProgram (words_of program) → IsHeader (header_of period mode logs) → (version : Version)
      (asked : ℕ) → (version ≡ One → asked ≡ harts) → (bytes : List ℕ) (others : List Message)
      → IsWhole bytes (header_in version (header_of period mode logs)) others
      → ((hart : ℕ) → of_hart hart others ≡ of_hart hart all)
      → (lists : List (List Event)) (closed : List Bool) (stop : Option (ℕ × CaptureFault))
      → IsDecoded (words_of program) asked bytes lists closed stop → AreReturned logs lists closed stop
  others_decode is start One asked count bytes others whole same lists closed stop decoded =
      let ranges = all_ranges program period mode logs legal all_same few in
      returned logs (map events_of logs) lists (replicate harts true) closed stop refl refl
      (decoded_again by.Bytes (words_of program) asked (capture all) bytes None all others
      (map events_of logs) lists (replicate harts true) closed stop is
      (record { ranges = ranges; whole = (unmarked all ranges, refl) }) whole
      (λ hart. ap (known_all by.Bytes) (same hart))
      (subst (λ n. IsDecoded (words_of program) n (capture all) (map events_of logs) (replicate harts true) None)
      (sym (count refl)) sent_plain) decoded)
  others_decode is start Two asked count bytes others whole same lists closed stop decoded =
      returned logs (map events_of logs) lists (replicate harts true) closed stop refl refl
      (decoded_again by.Bytes (words_of program) asked sent bytes (Some (header_of period mode logs)) all others
      (map events_of logs) lists (replicate harts true) closed stop is
      (record { ranges = all_ranges program period mode logs legal all_same few; whole = (start, refl) }) whole
      (λ hart. ap (known_all by.Bytes) (same hart)) (sent_decodes asked start) decoded)

-- A capture in which the messages of legal logs are mixed decodes to the logs.
pub mixed_captures : (program : Image) (period : ℕ) (mode : Mode) (version : Version) (logs : List ProgramLog)
    → IsHeader (header_of period mode logs) → All IsLongLegalLog logs
    → All (λ (log : ProgramLog). log.program ≡ program) logs → (bytes : List ℕ) (messages : List Message)
    → IsWhole bytes (header_in version (header_of period mode logs)) messages
    → ((hart : ℕ) → of_hart hart messages ≡ of_hart hart (messages_of_harts period mode 0 logs))
    → (harts : ℕ) → (version ≡ One → harts ≡ length logs)
    → (lists : List (List Event)) (closed : List Bool) (stop : Option (ℕ × CaptureFault))
    → IsDecoded (words_of program) harts bytes lists closed stop → AreReturned logs lists closed stop
mixed_captures program period mode version [] start legal same bytes messages whole own harts known lists closed stop is =
    let some = start.some_harts in
    absurd (omega (arith, some))
mixed_captures program period mode version (log ∷ logs) start legal same bytes messages whole own harts known lists closed
    stop is =
    let few = start.harts in
    let image = subst IsImage (All-head (λ (log : ProgramLog). log.program ≡ program) log logs same)
    (All-head IsLongLegalLog log logs legal).image in
    others_decode program period mode (log ∷ logs) legal same (omega (arith, few)) (words_of-IsProgram program image) start
    version harts known bytes messages whole own lists closed stop is
