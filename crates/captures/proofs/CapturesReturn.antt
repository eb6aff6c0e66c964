-- A capture of legal logs decodes to those logs, unless an allocation fails.
use Rattle.std.proofs.Common.{◌≡◌, ℕ, ◌<◌, ◌≤◌, ◌^◌, All, Bool, true, List, [], ◌∷◌, ◌++◌, Option, Some, None, length}
use Rattle.std.proofs.Common.{map, replicate, get_or, refl, sym, ap, subst, ◌∙◌, ⊎_elim, arith}
use Rattle.std.specs.Prelude.{false}
use Rattle.std.proofs.lemmas.List.Elements.{All-head}
use Rattle.std.proofs.lemmas.List.{append_cancel_left, same_lists, length-map, length-replicate, get_or-map}
use Rattle.std.proofs.lemmas.List.{get_or-replicate, append-nil}
use Rattle.std.proofs.lemmas.Option.{slice_get-get_or}
use Rattle.retire.specs.declared.event.Event.{Event}
use Rattle.rvclass.proofs.WordsLemmas.{words_of-IsProgram}
use Rattle.rvclass.specs.Fetch.{words_of}
use Rattle.rvclass.specs.Image.{Image}
use Rattle.legalpath.specs.ProgramLog.{ProgramLog, program_log}
use Rattle.payload.specs.declared.mode.Mode.{Mode}
use Rattle.payload.specs.declared.packet.Packet.{Packet}
use Rattle.decoder.proofs.UniqueLemmas.{one_log}
use Rattle.decoder.specs.Describes.{Describes}
use Rattle.decoder.specs.declared.fault.DecodeFault.{DecodeFault}
use Rattle.decoder.specs.declared.fault.DecodeFault.TheVariants.{Memory}
use Rattle.message.specs.Accepted.{AreAccepted, newcomers}
use Rattle.message.specs.Capture.{capture}
use Rattle.message.proofs.Selecting.{all_selected}
use Rattle.message.proofs.StartsRead.{header_only, never_both}
use Rattle.message.specs.Range.{every_hart, selected}
use Rattle.message.specs.Cut.{IsMessage, IsCut, HasBadLength}
use Rattle.message.specs.Header.{IsMarked, header_bytes, setting_bytes}
use Rattle.message.specs.declared.fault.DemuxFault.{DemuxFault}
use Rattle.message.specs.declared.fault.MessageFault.TheVariants as message
use Rattle.message.specs.declared.header.Header.{Header}
use Rattle.message.specs.declared.header.Version.{Version}
use Rattle.message.specs.declared.header.Version.TheVariants.{One, Two}
use Rattle.message.specs.declared.message.Message.{Message}
use Rattle.receiver.specs.Agreeing.{opens_another}
use Rattle.receiver.specs.Holds.{AreDecoded}
use Rattle.receiver.specs.declared.fault.ReceiveFault.{ReceiveFault}
use Rattle.receiver.specs.declared.fault.ReceiveFault.TheVariants as receiving
use Rattle.captures.proofs.CapturesSplit.{capture_split, capture_none, capture_not_cut, capture_not_bad, capture_first}
use Rattle.captures.proofs.Elements.{All-behind}
use Rattle.captures.proofs.HeaderFaults.{has_header, marked_by}
use Rattle.captures.proofs.NextMessages.{IsNext, all_ranges, program_image, log_described, log_ended, next_message}
use Rattle.captures.specs.Decoded.{AreHartsDecoded, BeginsRefused, IsDecoded, NoHeader, StopsDecodingOf, StopsOf}
use Rattle.captures.specs.Decoded.{Version1, Version2}
use Rattle.captures.specs.Messages.{messages_of_harts}
use Rattle.message.specs.OfHart.{packets_of}
use Rattle.captures.specs.Returned.{AreAskedFor, AreReturned, IsCaptureOf, IsLongLegalLog, IsMemory}
use Rattle.captures.specs.Versions.{header_of}
use Rattle.captures.specs.declared.outcome.CaptureFault.{CaptureFault}
use Rattle.captures.specs.declared.outcome.CaptureFault.TheVariants as fault

-- The announced mode, if there is one, is this one.
abbrev IsAnnouncedIfAny : Mode → Option Mode → Type 0
IsAnnouncedIfAny mode None = Unit {0}
IsAnnouncedIfAny mode (Some announced) = announced ≡ mode

-- Where a packet opens no trace in another mode than this one, it agrees with the announced mode.
agrees_announced : (mode : Mode) (announced : Option Mode) (p : Packet) → IsAnnouncedIfAny mode announced
    → opens_another (Some mode) p ≡ false → opens_another announced p ≡ false
agrees_announced mode None p its agrees = refl
agrees_announced mode (Some announced) p its agrees = subst (λ t. opens_another (Some t) p ≡ false) (sym its) agrees

module _ (program : Image) (period : ℕ) (mode : Mode) (logs : List ProgramLog)
    (legal : All IsLongLegalLog logs) (all_same : All (λ (log : ProgramLog). log.program ≡ program) logs)
    (few : length logs ≤ 2 ^ 16) (announced : Option Mode) (its : IsAnnouncedIfAny mode announced) where
  abbrev all : List Message
  all = messages_of_harts period mode 0 logs

  -- Of all messages the lists are the events of the logs.
  lists_same : (lists : List (List Event)) (closed : List Bool)
      → AreDecoded (λ hart. words_of program) (length logs) all lists closed
      → lists ≡ map (λ (log : ProgramLog). log.events) logs
  lists_same lists closed decoded =
      let events = λ (log : ProgramLog). log.events in
      let count = decoded.lists_count in
      same_lists lists (map events logs) (count ∙ sym (length-map logs events))
      (λ k d within.
      let known : k < length logs = omega (arith, within, count) in
      let log = get_or logs k (program_log program d) in
      let list = get_or lists k d in
      let image =
      program_image program period mode logs legal all_same few k log (slice_get-get_or logs k (program_log program d)
      known) in
      one_log (words_of program) (words_of-IsProgram program image) _ list log.events
      (decoded.described k list (slice_get-get_or lists k d within))
      (log_described program period mode logs legal all_same few k log (slice_get-get_or logs k (program_log program d)
      known))
      ∙ sym (get_or-map events logs k (program_log program d) d known))

  -- And every hart is closed.
  closed_same : (lists : List (List Event)) (closed : List Bool)
      → AreDecoded (λ hart. words_of program) (length logs) all lists closed → closed ≡ replicate (length logs) true
  closed_same lists closed decoded =
      let count = decoded.closed_count in
      same_lists closed (replicate (length logs) true) (count ∙ sym (length-replicate (length logs) true))
      (λ k d within.
      let known : k < length logs = omega (arith, within, count) in
      let log = get_or logs k (program_log program []) in
      decoded.are_closed k (get_or closed k d) (slice_get-get_or closed k d within)
      ∙ log_ended program period mode logs legal all_same few k log
      (slice_get-get_or logs k (program_log program []) known)
      ∙ sym (get_or-replicate (length logs) k true d known))

  -- A message of theirs that is refused comes next behind the first ones.
  refused_next : (messages later : List Message) (rest : List ℕ) (why : ReceiveFault) → all ≡ messages ++ later
      → rest ≡ capture later → All IsMessage later
      → (left : BeginsRefused (words_of program) (length logs) announced messages rest why)
      → IsNext (words_of program) (length logs) mode messages left.message
  refused_next messages later rest why whole same ranges left =
      let first = capture_first later left.message left.rest ranges left.ranges (sym same ∙ left.begins) in
      next_message program period mode logs legal all_same few messages left.message first.0
      (whole ∙ ap (λ l. messages ++ l) first.1)

  -- No message behind the first ones is refused.
  not_refused : (messages later : List Message) (rest : List ℕ) (why : DemuxFault) → all ≡ messages ++ later
      → rest ≡ capture later → All IsMessage later
      → BeginsRefused (words_of program) (length logs) announced messages rest (receiving.Demux why)
      → AreAccepted (newcomers (length logs)) messages → ⊥
  not_refused messages later rest why whole same ranges refused accepted =
      let next = refused_next messages later rest (receiving.Demux why) whole same ranges refused in
      let taken = next.taken accepted in
      let answer = refused.refused in
      cc

  -- A packet of theirs that is not decoded lacks memory.
  not_decoded : (messages later : List Message) (rest : List ℕ) (why : DecodeFault) → all ≡ messages ++ later
      → rest ≡ capture later → All IsMessage later
      → BeginsRefused (words_of program) (length logs) announced messages rest (receiving.Decode why)
      → AreAccepted (newcomers (length logs)) messages → why ≡ Memory
  not_decoded messages later rest why whole same ranges left accepted =
      let next = refused_next messages later rest (receiving.Decode why) whole same ranges left in
      let one = next.taken accepted in
      let other = left.refused.0.accepted in
      let packet : next.packet ≡ left.refused.0.packet = cc in
      let described =
      subst (λ p. Describes (words_of program) (packets_of left.message.hart messages ++ p ∷ []) next.log) packet
      next.described in
      ⊎_elim (λ memory. memory) (λ none. absurd (none next.log described)) left.refused.0.not_decoded.reason

  -- No packet of theirs opens a trace in another mode.
  not_another : (messages later : List Message) (rest : List ℕ) → all ≡ messages ++ later → rest ≡ capture later
      → All IsMessage later
      → BeginsRefused (words_of program) (length logs) announced messages rest receiving.Mode
      → AreAccepted (newcomers (length logs)) messages → ⊥
  not_another messages later rest whole same ranges left accepted =
      let next = refused_next messages later rest receiving.Mode whole same ranges left in
      let one = next.taken accepted in
      let other = left.refused.accepted in
      let packet : next.packet ≡ left.refused.packet = cc in
      let agrees = subst (λ p. opens_another announced p ≡ false) packet
      (agrees_announced mode announced next.packet its next.agrees) in
      let another = left.refused.another in
      cc

  -- Why decoding stops behind the first ones.
  stopped : (messages later : List Message) (rest : List ℕ) (why : CaptureFault) → all ≡ messages ++ later
      → rest ≡ capture later → All IsMessage later → AreAccepted (newcomers (length logs)) messages
      → StopsDecodingOf every_hart (words_of program) (length logs) announced messages rest why → IsMemory why
  stopped messages later rest (fault.Message message.Short) whole same ranges accepted stops =
      absurd (capture_not_cut later ranges (subst IsCut same stops))
  stopped messages later rest (fault.Message message.BadLength) whole same ranges accepted stops =
      absurd (capture_not_bad later ranges (subst HasBadLength same stops))
  stopped messages later rest (fault.Message message.Read) whole same ranges accepted stops = absurd stops
  stopped messages later rest (fault.Message message.Write) whole same ranges accepted stops = absurd stops
  stopped messages later rest (fault.Message message.BadHeader) whole same ranges accepted stops = absurd stops
  stopped messages later rest (fault.Demux why) whole same ranges accepted stops =
      absurd (not_refused messages later rest why whole same ranges stops.begins accepted)
  stopped messages later rest (fault.Decode why) whole same ranges accepted stops =
      not_decoded messages later rest why whole same ranges stops.begins accepted
  stopped messages later rest fault.Mode whole same ranges accepted stops =
      absurd (not_another messages later rest whole same ranges stops.begins accepted)

  -- What decoding up to a stop gives.
  returned : (lists : List (List Event)) (closed : List Bool) (stop : Option (ℕ × CaptureFault))
      (messages later : List Message) (rest : List ℕ) → all ≡ messages ++ later → rest ≡ capture later
      → All IsMessage later → selected every_hart messages ≡ messages
      → AreDecoded (λ hart. words_of program) (length logs) messages lists closed
      → AreAccepted (newcomers (length logs)) messages
      → StopsOf every_hart (words_of program) (length logs) announced messages rest stop
      → AreReturned logs lists closed stop
  returned lists closed None messages later rest whole same ranges every decoded accepted stops =
      let none = capture_none later (sym same ∙ stops) in
      let is : messages ≡ all = sym (whole ∙ ap (λ l. messages ++ l) none ∙ append-nil messages) in
      let done = subst (λ ms. AreDecoded (λ hart. words_of program) (length logs) ms lists closed) is decoded in
      (lists_same lists closed done, closed_same lists closed done)
  returned lists closed (Some stop) messages later rest whole same ranges every decoded accepted stops =
      stopped messages later rest stop.1 whole same ranges accepted
      (subst (λ ms. StopsDecodingOf every_hart (words_of program) (length logs) announced ms rest stop.1) every stops.1)

  -- What is decoded of the capture of all messages.
  pub all_returned : (lists : List (List Event)) (closed : List Bool) (stop : Option (ℕ × CaptureFault))
      → AreHartsDecoded every_hart (words_of program) (length logs) announced (capture all) lists closed stop
      → AreReturned logs lists closed stop
  all_returned lists closed stop here =
      let ranges = all_ranges program period mode logs legal all_same few in
      let split = capture_split all here.messages here.rest ranges here.ranges here.whole in
      let later = All-behind IsMessage here.messages split.later (subst (All IsMessage) split.whole ranges) in
      let every = all_selected here.messages here.ranges in
      returned lists closed stop here.messages split.later here.rest split.whole split.bytes later every
      (subst (λ ms. AreDecoded (λ hart. words_of program) (length logs) ms lists closed) every here.decoded)
      (subst (AreAccepted (newcomers (length logs))) every here.accepted) here.stops

-- The bytes of messages do not begin with the mark of version 2.
not_marked : (messages : List Message) → All IsMessage messages → IsMarked (capture messages) → ⊥
not_marked [] ranges marked = let count = ap length marked.1 in omega (arith, count)
not_marked (message ∷ messages) ranges marked =
    never_both message (capture messages) marked.0 (All-head IsMessage message messages ranges) marked.1

module _ (program : Image) (period : ℕ) (mode : Mode) (harts : ℕ) (logs : List ProgramLog) (bytes : List ℕ)
    (lists : List (List Event)) (closed : List Bool) (stop : Option (ℕ × CaptureFault)) where
  abbrev sent_all : List ℕ
  sent_all = capture (messages_of_harts period mode 0 logs)

  -- A capture of version 1 decodes to the logs.
  return_one : IsCaptureOf program One period mode logs bytes → length logs ≡ harts → length logs ≤ 2 ^ 16
      → IsDecoded (words_of program) harts bytes lists closed stop → AreReturned logs lists closed stop
  return_one sent count few (Version1 none here) =
      all_returned program period mode logs sent.legal sent.same few None tt lists closed stop
      (subst (λ b. AreHartsDecoded every_hart (words_of program) (length logs) None b lists closed stop) sent.whole
      (subst (λ n. AreHartsDecoded every_hart (words_of program) n None bytes lists closed stop) (sym count) here))
  return_one sent count few (Version2 header rest is begins here) =
      absurd (not_marked (messages_of_harts period mode 0 logs)
      (all_ranges program period mode logs sent.legal sent.same few)
      (setting_bytes header ++ rest, sym sent.whole ∙ begins))
  return_one sent count few (NoHeader why none is_stop no_lists none_closed) =
      absurd (not_marked (messages_of_harts period mode 0 logs)
      (all_ranges program period mode logs sent.legal sent.same few)
      (subst IsMarked sent.whole (marked_by bytes why none)))

  -- A capture of version 2 decodes to the logs, however many harts are asked for.
  return_two : IsCaptureOf program Two period mode logs bytes
      → IsDecoded (words_of program) harts bytes lists closed stop → AreReturned logs lists closed stop
  return_two sent (Version1 none here) =
      absurd (none (setting_bytes (header_of period mode logs) ++ sent_all, sent.whole))
  return_two sent (Version2 header rest is begins here) =
      let own = header_of period mode logs in
      let both : header_bytes own ++ sent_all ≡ header_bytes header ++ rest = sym sent.whole ∙ begins in
      let same = header_only own header sent_all rest sent.start is both in
      let left : rest ≡ sent_all =
      append_cancel_left (header_bytes own) rest sent_all
      (ap (λ (h : Header). header_bytes h ++ rest) same ∙ sym both) in
      let counted = sent.start.harts in
      all_returned program period mode logs sent.legal sent.same (omega (arith, counted)) (Some mode) refl lists closed
      stop
      (subst (λ b. AreHartsDecoded every_hart (words_of program) (length logs) (Some mode) b lists closed stop) left
      (subst
      (λ (h : Header). AreHartsDecoded every_hart (words_of program) h.harts (Some h.mode) rest lists closed stop)
      (sym same) here))
  return_two sent (NoHeader why none is_stop no_lists none_closed) =
      absurd (has_header (header_of period mode logs) sent_all bytes why sent.start sent.whole none)

  -- A capture of legal logs decodes to those logs, with every hart closed, unless an allocation failed.
  pub captures_return : (version : Version) → IsCaptureOf program version period mode logs bytes
      → AreAskedFor version harts logs → harts ≤ 2 ^ 16
      → IsDecoded (words_of program) harts bytes lists closed stop → AreReturned logs lists closed stop
  captures_return One sent count room decoded = return_one sent count (omega (arith, count, room)) decoded
  captures_return Two sent asked room decoded = return_two sent decoded
