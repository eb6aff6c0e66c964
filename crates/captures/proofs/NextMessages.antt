-- The message that stands behind the first ones of a capture.
use Rattle.std.proofs.Common.{◌≡◌, ℕ, ◌≤◌, ◌^◌, All, true, false, List, [], ◌∷◌, ◌++◌, Option, Some, None, Ok, length}
use Rattle.std.proofs.Common.{get_or, slice_get, refl, sym, ap, subst, ◌∙◌, arith}
use Rattle.std.specs.List.{last_or}
use Rattle.std.proofs.lemmas.List.{append_assoc}
use Rattle.std.proofs.lemmas.List.Elements.{All-weaker}
use Rattle.std.proofs.lemmas.Option.{slice_get-get_or}
use Rattle.retire.specs.declared.event.Event.{Event}
use Rattle.rvclass.proofs.WordsLemmas.{words_of-IsProgram}
use Rattle.rvclass.specs.Fetch.{words_of}
use Rattle.rvclass.specs.Image.{Image, IsImage}
use Rattle.rvclass.specs.Words.{Words}
use Rattle.legalpath.specs.Legal.{Legal}
use Rattle.legalpath.specs.ProgramLog.{ProgramLog, program_log}
use Rattle.payload.specs.Reading.{reading}
use Rattle.payload.specs.declared.mode.Mode.{Mode}
use Rattle.payload.specs.declared.packet.Packet.{Packet}
use Rattle.encoder.specs.Packets.{packets}
use Rattle.decoder.proofs.ExtendingLemmas.{front_describes}
use Rattle.decoder.specs.Describes.{Describes}
use Rattle.decoder.specs.ModeOf.{mode_of}
use Rattle.payload.specs.ClosedTrace.{last_is_closing}
use Rattle.decoder.specs.Pieces.{reported_after, Pieces}
use Rattle.message.proofs.AcceptedLemmas.{accepted_counted}
use Rattle.message.proofs.Answering.{answer-next}
use Rattle.message.proofs.Elements.{All-slice_get}
use Rattle.message.specs.Accepted.{AreAccepted, expected_after, newcomers}
use Rattle.message.specs.Accepting.{answer_of, accepting}
use Rattle.message.specs.Cut.{IsMessage}
use Rattle.message.specs.declared.message.Message.{Message}
use Rattle.captures.specs.Returned.{IsLongLegalLog}
use Rattle.captures.proofs.Elements.{All-middle}
use Rattle.captures.proofs.OneMode.{AgreesWith, packets_agree}
use Rattle.receiver.specs.Agreeing.{opens_another}
use Rattle.roundtrip.proofs.FirstPackets.{packets_describe}
use Rattle.message.proofs.OfHartLemmas.{of_hart-append, of_hart-own}
use Rattle.message.proofs.HartMessages.{expected_of, packets_in-cons, packets_of-append}
use Rattle.captures.proofs.LogMessages.{IsSent, all_sent, of_hart-log, packets_of-log, number-front}
use Rattle.encoder.proofs.ClosingPacket.{packets_end}
use Rattle.captures.proofs.SoundLogs.{IsSound, sound_logs}
use Rattle.captures.specs.Messages.{messages_of_harts}
use Rattle.message.specs.OfHart.{of_hart, packets_in, packets_of}
use Rattle.encoder.specs.Payloads.{payloads}

-- Packets with another behind them have not ended.
not_ended : (words : Words) (mode : Mode) (before : Option Event) (reported : ℕ) (front : List Packet) (packet : Packet)
    (rest : List Packet) (next : Option Packet) (pieces : List (List Event))
    → Pieces words mode before reported (front ++ packet ∷ rest) next pieces → last_is_closing front ≡ false
not_ended words mode before reported [] packet rest next pieces each = refl
not_ended words mode before reported (p ∷ front) packet rest next [] each = absurd each
not_ended words mode before reported (p ∷ []) packet rest next (piece ∷ pieces) each = each.0.0
not_ended words mode before reported (p ∷ q ∷ front) packet rest next (piece ∷ pieces) each =
    not_ended words mode (last_or before piece) (reported_after p reported piece) (q ∷ front) packet rest next pieces
    each.2

-- A demultiplexer takes the message, the packets of its hart with this one describe a log, and it opens no trace in
-- another mode than this one.
pub record IsNext (words : Words) (harts : ℕ) (mode : Mode) (messages : List Message) (message : Message) : Type 0 where
  pub packet : Packet
  pub taken : AreAccepted (newcomers harts) messages
      → accepting (expected_after (newcomers harts) messages) message ≡ Ok packet
  pub log : List Event
  pub described : Describes words (packets_of message.hart messages ++ packet ∷ []) log
  pub agrees : opens_another (Some mode) packet ≡ false

module _ (program : Image) (period : ℕ) (mode : Mode) (logs : List ProgramLog)
    (legal : All IsLongLegalLog logs) (all_same : All (λ (log : ProgramLog). log.program ≡ program) logs)
    (few : length logs ≤ 2 ^ 16) where
  abbrev all : List Message
  all = messages_of_harts period mode 0 logs

  sound : All (IsSound period mode) logs
  sound = sound_logs period mode logs legal

  -- Each message is as harts send it.
  as_sent : All (IsSent (length logs)) all
  as_sent = all_sent period mode (length logs) 0 logs (omega arith) few sound

  pub all_ranges : All IsMessage all
  all_ranges = All-weaker (IsSent (length logs)) IsMessage (λ message is. is.ranges) all as_sent

  -- The packets of a hart's messages are those of its log.
  packets_at : (hart : ℕ) (log : ProgramLog) → slice_get logs hart ≡ Some log
      → packets_of hart all ≡ packets (words_of program) period mode log.events
  packets_at hart log at =
      packets_of-log period mode hart logs log at (All-slice_get (IsSound period mode) logs hart log at sound)
      ∙ ap (λ (p : Image). packets (words_of p) period mode log.events)
      (All-slice_get (λ (l : ProgramLog). l.program ≡ program) logs hart log at all_same)

  -- Where there is a log, the bytes of the program are an image.
  pub program_image : (hart : ℕ) (log : ProgramLog) → slice_get logs hart ≡ Some log → IsImage program
  program_image hart log at =
      subst IsImage (All-slice_get (λ (l : ProgramLog). l.program ≡ program) logs hart log at all_same)
      (All-slice_get (IsSound period mode) logs hart log at sound).image

  -- They describe it.
  pub log_described : (hart : ℕ) (log : ProgramLog) → slice_get logs hart ≡ Some log
      → Describes (words_of program) (packets_of hart all) log.events
  log_described hart log at =
      let same = All-slice_get (λ (l : ProgramLog). l.program ≡ program) logs hart log at all_same in
      let legal =
      subst (λ (p : Image). Legal (words_of p) log.events) same
      (All-slice_get (IsSound period mode) logs hart log at sound).legal in
      let describe =
      packets_describe (words_of program) (words_of-IsProgram program (program_image hart log at)) period mode
      log.events legal in
      subst (λ ps. Describes (words_of program) ps log.events) (sym (packets_at hart log at)) describe

  -- They end its trace.
  pub log_ended : (hart : ℕ) (log : ProgramLog) → slice_get logs hart ≡ Some log
      → last_is_closing (packets_of hart all) ≡ true
  log_ended hart log at =
      ap last_is_closing (packets_at hart log at) ∙ packets_end (words_of program) period mode log.events

  -- A demultiplexer that accepted the messages before takes the one behind them.
  takes : (messages : List Message) (message : Message) (later : List Message) (packet : Packet)
      → all ≡ messages ++ message ∷ later
      → IsSent (length logs) message → reading message.payload ≡ Ok packet
      → last_is_closing (packets_of message.hart messages) ≡ false
      → AreAccepted (newcomers (length logs)) messages
      → accepting (expected_after (newcomers (length logs)) messages) message ≡ Ok packet
  takes messages message later packet whole is read going accepted =
      let hart = message.hart in
      let log = get_or logs hart (program_log program []) in
      let at = slice_get-get_or logs hart (program_log program []) is.known in
      let own = sym (of_hart-log period mode 0 hart hart logs log (omega arith) at) ∙ ap (of_hart hart) whole
      ∙ of_hart-append hart messages (message ∷ later)
      ∙ ap (λ l. of_hart hart messages ++ l) (of_hart-own message later) in
      let number = number-front hart 0 (payloads period mode log) (of_hart hart messages) message (of_hart hart later)
      own in
      let few = is.few in
      let counted = accepted_counted (length logs) messages accepted in
      ap (λ h. answer_of h message) (counted.each hart is.known)
      ∙ answer-next (expected_of hart messages) message packet going (omega (arith, number, few))
      (omega (arith, number)) read

  -- The message behind the first ones.
  pub next_message : (messages : List Message) (message : Message) (later : List Message)
      → all ≡ messages ++ message ∷ later → IsNext (words_of program) (length logs) mode messages message
  next_message messages message later whole =
      let hart = message.hart in
      let is =
      All-middle (IsSent (length logs)) messages message later (subst (All (IsSent (length logs))) whole as_sent) in
      let log = get_or logs hart (program_log program []) in
      let at = slice_get-get_or logs hart (program_log program []) is.known in
      let before = packets_of hart messages in
      let rest = packets_of hart later in
      let split : packets_of hart all ≡ before ++ is.packet ∷ rest = ap (packets_of hart) whole
      ∙ packets_of-append hart messages (message ∷ later)
      ∙ ap (λ l. before ++ l)
      (ap packets_in (of_hart-own message later) ∙ packets_in-cons message (of_hart hart later) is.packet is.read)
      in
      let joined : packets_of hart all ≡ (before ++ is.packet ∷ []) ++ rest =
      split ∙ sym (append_assoc before (is.packet ∷ []) rest) in
      let described = log_described hart log at in
      let front =
      (front_describes (words_of program) (before ++ is.packet ∷ []) rest log.events
      (subst (λ ps. Describes (words_of program) ps log.events) joined described)).0 in
      let going =
      not_ended (words_of program) (mode_of (before ++ is.packet ∷ rest)) None 0 before is.packet rest None
      described.pieces
      (subst (λ ps. Pieces (words_of program) (mode_of ps) None 0 ps None described.pieces) split described.each) in
      record {
        packet = is.packet;
        taken = λ accepted. takes messages message later is.packet whole is is.read going accepted;
        log = _;
        described = front;
        agrees = All-middle (AgreesWith mode) before is.packet rest
            (subst (All (AgreesWith mode)) (sym (packets_at hart log at) ∙ split)
            (packets_agree (words_of program) period mode log.events));
      }
