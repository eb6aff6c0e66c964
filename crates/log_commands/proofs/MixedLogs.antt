-- The messages of logs, mixed.
use Rattle.std.proofs.Common.{◌≡◌, ◌⊎◌, ◌∙◌, ◌+◌, ◌<◌, ◌≤◌, ◌^◌, ◌++◌, All, Global, Vec, ap, append-nil, arith, inl, inr}
use Rattle.std.proofs.Common.{refl, subst, sym, ℕ, Bool, true, false, List, [], ◌∷◌, Option, Some, Ok, Err, Result}
use Rattle.std.proofs.Common.{if◌then◌else◌, length, map}
use Rattle.std.proofs.KnownBytes.{Appends-nil}
use Rattle.std.proofs.lemmas.List.Elements.{All-cons, All-head, All-nil, All-tail, All-weaker}
use Rattle.std.specs.Prelude.{IfErr, IfOk, OnOk}
use Rattle.std.specs.Io.KnownBytes.{Appends}
use Rattle.std.specs.List.{flat_map}
use Rattle.output.specs.Begun.{AppendsBeginning}
use Rattle.captures.proofs.LogMessages.{IsSent, all_sent}
use Rattle.captures.proofs.MessageTexts.{capture_is}
use Rattle.captures.proofs.SoundLogs.{sound_logs}
use Rattle.captures.specs.Messages.{messages_of_harts}
use Rattle.captures.specs.Returned.{IsLongLegalLog}
use Rattle.encoder.specs.Payloads.{payloads}
use Rattle.legalpath.specs.LegalUpTo.{IsLegalUpTo}
use Rattle.legalpath.specs.ProgramLog.{ProgramLog}
use Rattle.message.specs.Capture.{capture, message_bytes}
use Rattle.message.specs.Cut.{IsMessage}
use Rattle.message.specs.Numbered.{messages_from}
use Rattle.message.specs.OfHart.{of_hart}
use Rattle.message.specs.Version.{most_harts}
use Rattle.message.specs.declared.header.Version.{Version}
use Rattle.message.specs.declared.header.Version.TheVariants.{One, Two}
use Rattle.message.specs.declared.fault.MessageFault.{MessageFault}
use Rattle.message.specs.declared.message.Message.{Message}
use Rattle.payload.specs.declared.mode.Mode.{Mode}
use Rattle.stimulus.proofs.LeftMessages.{all_held}
use Rattle.stimulus.proofs.MixedMessages.{AreOwn, mixed_kept}
use Rattle.stimulus.specs.Mixing.{AreMessages, mixed_by}
use Rattle.command_inputs.specs.Printed.{PrintsUnlessDenied}
use Rattle.command_inputs.specs.declared.fault.Fault.TheVariants as fault
use Rattle.command_inputs.specs.declared.status.Status.{Status}
use Rattle.command_inputs.specs.declared.words.Encode.{Encode}
use Rattle.log_commands.proofs.MadeLogs.{made_long}
use Rattle.log_commands.specs.Encoding.{messages_in_order, messages_of_each, written}
use Rattle.log_commands.specs.Faults.{Fault, Printed}
use Rattle.log_commands.specs.Joining.{MixedMessagesAreTheSame}
use Rattle.log_commands.specs.Most.{most_of}
use Rattle.log_commands.specs.Parts.{all_harts, first_hart, messages_text, part_start}
use Rattle.log_commands.specs.steps.Made.{AreAskedMessages, AreMadeFrom, AreMessagesOf, asked_header, form_text}
use Rattle.log_commands.specs.steps.Made.{lines_made, output_or, start_of}

-- The messages of payloads are of their hart.
from_own : (hart number : ℕ) (payloads : List (List ℕ))
    → All (λ (message : Message). message.hart ≡ hart) (messages_from hart number payloads)
from_own hart number [] = All-nil (λ (message : Message). message.hart ≡ hart)
from_own hart number (payload ∷ payloads) =
    All-cons (λ (message : Message). message.hart ≡ hart) _ (messages_from hart (number + 1) payloads) refl
    (from_own hart (number + 1) payloads)

module _ (period : ℕ) (mode : Mode) where
  -- Those of each log are of its hart.
  each_own : (hart : ℕ) (logs : List ProgramLog) → AreOwn hart (messages_of_each period mode hart logs)
  each_own hart [] = tt
  each_own hart (log ∷ logs) = (from_own hart 0 (payloads period mode log), each_own (hart + 1) logs)

  -- One log after the other they are those of all.
  pub each_joined : (hart : ℕ) (logs : List ProgramLog)
      → flat_map (λ own. own) (messages_of_each period mode hart logs) ≡ messages_of_harts period mode hart logs
  each_joined hart [] = refl
  each_joined hart (log ∷ logs) =
      ap (λ rest. messages_from hart 0 (payloads period mode log) ++ rest) (each_joined (hart + 1) logs)

module _ (period : ℕ) (mode : Mode) (harts : ℕ) (few : harts ≤ 2 ^ 16) where
  -- The messages of a log are within their ranges.
  log_ranges : (hart : ℕ) (log : ProgramLog) → hart < harts → IsLongLegalLog log
      → All IsMessage (messages_from hart 0 (payloads period mode log))
  log_ranges hart log within legal =
      subst (All IsMessage) (append-nil (messages_from hart 0 (payloads period mode log)))
      (All-weaker (IsSent harts) IsMessage (λ message is. is.ranges) (messages_of_harts period mode hart (log ∷ []))
      (all_sent period mode harts hart (log ∷ []) (omega (arith, within)) few
      (sound_logs period mode (log ∷ []) (All-cons IsLongLegalLog log [] legal (All-nil IsLongLegalLog)))))

  each_ranges : (hart : ℕ) (logs : List ProgramLog) → hart + length logs ≤ harts → All IsLongLegalLog logs
      → All (All IsMessage) (messages_of_each period mode hart logs)
  each_ranges hart [] room legal = All-nil (All IsMessage)
  each_ranges hart (log ∷ logs) room legal =
      All-cons (All IsMessage) (messages_from hart 0 (payloads period mode log))
      (messages_of_each period mode (hart + 1) logs)
      (log_ranges hart log (omega (arith, room)) (All-head IsLongLegalLog log logs legal))
      (each_ranges (hart + 1) logs (omega (arith, room)) (All-tail IsLongLegalLog log logs legal))

-- The bytes that were made of logs are those of each log's messages.
each_bytes : (period : ℕ) (mode : Mode) (first place : ℕ) (logs : List ProgramLog) (made : List (Vec ℕ Global))
    → AreMadeFrom (AreMessagesOf message_bytes period mode first) place logs made
    → map (λ (bytes : Vec ℕ Global). bytes.items) made ≡ map capture (messages_of_each period mode (first + place) logs)
each_bytes period mode first place [] [] are = refl
each_bytes period mode first place [] (one ∷ made) are = elim are [ ]
each_bytes period mode first place (log ∷ logs) [] are = elim are [ ]
each_bytes period mode first place (log ∷ logs) (one ∷ made) are =
    let next : first + (place + 1) ≡ first + place + 1 = omega arith in
    let own = messages_from (first + place) 0 (payloads period mode log) in
    ap (λ bytes. bytes ∷ map (λ (bytes : Vec ℕ Global). bytes.items) made) (are.0 ∙ sym (capture_is own))
    ∙ ap (λ rest. capture own ∷ rest)
    (each_bytes period mode first (place + 1) logs made are.1
    ∙ ap (λ hart. map capture (messages_of_each period mode hart logs)) next)

module _ (asked : Encode) (seed : ℕ) (some : asked.mixed ≡ Some seed) (logs : List ProgramLog)
    (made : List (Vec ℕ Global)) (are : AreAskedMessages asked logs made) where
  abbrev first : ℕ
  first = first_hart asked.first

  abbrev left : List (List Message)
  left = messages_of_each asked.period asked.mode first logs

  as_bytes : AreMadeFrom (AreMessagesOf message_bytes asked.period asked.mode first) 0 logs made
  as_bytes =
      subst (λ mixed. AreMadeFrom (AreMessagesOf (form_text (lines_made mixed asked.hex)) asked.period asked.mode first) 0
      logs made) some are.1

  -- They are what is mixed.
  pub are_mixed : first + length made ≤ all_harts asked.of (length made)
      → all_harts asked.of (length made) ≤ most_harts asked.version → AreMessages left made
  are_mixed room few =
      let here : first + 0 ≡ first = omega arith in
      let count = made_long (AreMessagesOf message_bytes asked.period asked.mode first) 0 logs made as_bytes in
      all_held left (map (λ (bytes : Vec ℕ Global). bytes.items) made)
      (each_bytes asked.period asked.mode first 0 logs made as_bytes
      ∙ ap (λ hart. map capture (messages_of_each asked.period asked.mode hart logs)) here)
      (each_ranges asked.period asked.mode (all_harts asked.of (length made))
      (omega (arith, few, most_within asked.version)) first logs (omega (arith, room, count)) are.0)
    where
      most_within : (version : Version) → most_harts version ≤ 2 ^ 16
      most_within One = omega arith
      most_within Two = omega arith

  by_form : (hex : Bool)
      → (if hex then [] else part_start asked.version first (asked_header asked (length made)))
      ++ flat_map (form_text hex) (mixed_by seed left)
      ≡ messages_text hex asked.version asked.period asked.mode first (all_harts asked.of (length logs))
      (mixed_by seed left)
  by_form true = refl
  by_form false =
      ap (λ count. part_start asked.version first (asked_header asked count) ++ flat_map message_bytes (mixed_by seed left))
      (sym (made_long (AreMessagesOf message_bytes asked.period asked.mode first) 0 logs made as_bytes))
      ∙ ap (λ bytes. part_start asked.version first (asked_header asked (length logs)) ++ bytes)
      (sym (capture_is (mixed_by seed left)))

  -- What is written of them is what is asked for.
  pub mixed_written : start_of asked (length made) ++ flat_map (form_text asked.hex) (mixed_by seed left)
      ≡ written asked logs
  mixed_written =
      by_form asked.hex
      ∙ ap (λ mixed. messages_text asked.hex asked.version asked.period asked.mode first
      (all_harts asked.of (length logs)) (messages_in_order mixed asked.period asked.mode first logs)) (sym some)

-- A log that is legal with as many rows as may be asked for is a long legal log.
long_log : (long : Bool) (log : ProgramLog) → IsLegalUpTo (most_of long) log.program log.events → IsLongLegalLog log
long_log true log legal = legal
long_log false log legal =
    let short = legal.short in
    record { legal = legal.legal; short = omega (arith, short); numbers = legal.numbers; image = legal.image }

pub long_logs : (long : Bool) (logs : List ProgramLog)
    → All (λ (log : ProgramLog). IsLegalUpTo (most_of long) log.program log.events) logs → All IsLongLegalLog logs
long_logs long logs legal =
    All-weaker (λ (log : ProgramLog). IsLegalUpTo (most_of long) log.program log.events) IsLongLegalLog
    (long_log long) logs legal

-- A text was written and the run ended so, unless an allocation or the output failed.
pub written_or_denied : (Prints : Printed → Type 0) (CanWrite : Type 0) (text : List ℕ) (status : Status)
    (ended : Result Status Fault) (old new : Option (List ℕ)) → Prints (record { text = text; ended = Ok status })
    → CanWrite → IfErr ended (λ why. (why ≡ fault.Memory) ⊎ (why ≡ fault.Output))
    → IfOk ended (λ done. done ≡ status) → OnOk ended (Appends old new text)
    → PrintsUnlessDenied Prints CanWrite ended old new
written_or_denied Prints CanWrite text status (Ok done) old new prints can failed same appended = record {
  text = text;
  prints = subst (λ done. Prints (record { text = text; ended = Ok done })) (sym same) prints;
  appended = appended;
}
written_or_denied Prints CanWrite text status (Err why) old new prints can (inl memory) same appended =
    inl (inl memory)
written_or_denied Prints CanWrite text status (Err why) old new prints can (inr output) same appended =
    inl (inr (output, can))

-- What holds where messages were written holds where the output did not fail.
pub output_on : (P : Type 0) (written : Result (Unit {0}) MessageFault) → OnOk written P → OnOk (output_or written) P
output_on P (Ok done) holds = holds
output_on P (Err why) holds = tt

-- Nothing is written of a text.
pub begun_none : (text : List ℕ) (old : Option (List ℕ)) → AppendsBeginning text old old
begun_none text old = record { text = []; rest = text; parted = refl; appended = Appends-nil old }

-- Mixed messages are those of each hart, in their order.
pub mixed_same : MixedMessagesAreTheSame
mixed_same seed period mode first logs hart =
    mixed_kept hart first seed (messages_of_each period mode first logs) (each_own period mode first logs)
    ∙ ap (of_hart hart) (each_joined period mode first logs)
