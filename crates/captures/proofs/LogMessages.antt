-- The messages of logs, of each hart in turn.
use Rattle.std.proofs.Common.{◌≡◌, ◌≢◌, ℕ, ◌+◌, ◌<◌, ◌≤◌, ◌^◌, All, List, [], ◌∷◌, ◌++◌, Some, Ok, length, map}
use Rattle.std.proofs.Common.{slice_get, suc, zero, refl, ap, ◌∙◌, arith}
use Rattle.std.proofs.lemmas.List.{append-nil}
use Rattle.std.proofs.lemmas.List.Elements.{All-nil, All-cons, All-append, All-head, All-tail}
use Rattle.std.proofs.lemmas.Option.{same_Some}
use Rattle.rvclass.specs.Fetch.{words_of}
use Rattle.legalpath.specs.ProgramLog.{ProgramLog}
use Rattle.payload.proofs.ReadingLaws.{payload_of-shortest, reading-payload_of}
use Rattle.payload.specs.Profile.{InProfile}
use Rattle.payload.specs.Reading.{reading}
use Rattle.payload.specs.Spelling.{payload_of}
use Rattle.payload.specs.declared.mode.Mode.{Mode}
use Rattle.payload.specs.declared.packet.Packet.{Packet}
use Rattle.encoder.specs.Packets.{packets}
use Rattle.message.specs.Cut.{IsMessage}
use Rattle.message.specs.declared.message.Message.{Message}
use Rattle.message.proofs.OfHartLemmas.{of_hart-append, of_hart-own, of_hart-others}
use Rattle.message.proofs.HartMessages.{packets_in-cons}
use Rattle.captures.proofs.SoundLogs.{IsSound}
use Rattle.message.specs.Numbered.{messages_from}
use Rattle.captures.specs.Messages.{messages_of_harts}
use Rattle.message.specs.OfHart.{of_hart, packets_in, packets_of}
use Rattle.encoder.specs.Payloads.{payloads}

-- A message as harts of this number send it: it is within its ranges, its number below what a demultiplexer takes, and
-- its payload unpacks to a packet.
pub record IsSent (harts : ℕ) (message : Message) : Type 0 where
  pub ranges : IsMessage message
  pub known : message.hart < harts
  pub few : message.number < 2 ^ 63
  pub packet : Packet
  pub read : reading message.payload ≡ Ok packet

messages_sent : (harts hart number : ℕ) (ps : List Packet) → hart < harts → harts ≤ 2 ^ 16
    → number + length ps ≤ 2 ^ 32 + 1 → All InProfile ps
    → All (IsSent harts) (messages_from hart number (map payload_of ps))
messages_sent harts hart number [] known few room profile = All-nil (IsSent harts)
messages_sent harts hart number (p ∷ ps) known few room profile =
    let good = All-head InProfile p ps profile in
    let extends = (payload_of-shortest p good).extends in
    let message : Message = record { hart = hart; number = number; payload = payload_of p } in
    let sent : IsSent harts message = record {
      ranges =
          record {
            hart = omega (arith, known, few);
            number = omega (arith, room);
            some = extends.some;
            few =
                extends.few;
            bytes = extends.each;
          };
      known = known;
      few = omega (arith, room);
      packet = p;
      read = reading-payload_of p good;
    } in
    All-cons (IsSent harts) message (messages_from hart (number + 1) (map payload_of ps)) sent
    (messages_sent harts hart (number + 1) ps known few (omega (arith, room)) (All-tail InProfile p ps profile))

-- Every message of sound logs is as harts send it.
pub all_sent : (period : ℕ) (mode : Mode) (harts hart : ℕ) (logs : List ProgramLog) → hart + length logs ≤ harts
    → harts ≤ 2 ^ 16 → All (IsSound period mode) logs
    → All (IsSent harts) (messages_of_harts period mode hart logs)
all_sent period mode harts hart [] room few sound = All-nil (IsSent harts)
all_sent period mode harts hart (log ∷ logs) room few sound =
    let good = All-head (IsSound period mode) log logs sound in
    let count = good.few in
    let words = words_of log.program in
    All-append (IsSent harts) (messages_from hart 0 (payloads period mode log))
    (messages_of_harts period mode (hart + 1) logs)
    (messages_sent harts hart 0 (packets words period mode log.events) (omega (arith, room)) few (omega (arith, count))
    good.profile)
    (all_sent period mode harts (hart + 1) logs (omega (arith, room)) few
    (All-tail (IsSound period mode) log logs sound))

-- The messages of a hart's payloads are all its own.
of_hart-same : (hart number : ℕ) (ps : List (List ℕ))
    → of_hart hart (messages_from hart number ps) ≡ messages_from hart number ps
of_hart-same hart number [] = refl
of_hart-same hart number (payload ∷ ps) =
    let message : Message = record { hart = hart; number = number; payload = payload } in
    of_hart-own message (messages_from hart (number + 1) ps)
    ∙ ap (λ later. message ∷ later) (of_hart-same hart (number + 1) ps)

-- None of them is another's.
of_hart-none : (hart other number : ℕ) (ps : List (List ℕ)) → other ≢ hart
    → of_hart hart (messages_from other number ps) ≡ []
of_hart-none hart other number [] apart = refl
of_hart-none hart other number (payload ∷ ps) apart =
    of_hart-others hart (record { hart = other; number = number; payload = payload })
    (messages_from other (number + 1) ps) apart
    ∙ of_hart-none hart other (number + 1) ps apart

-- Of a hart before all of these logs there are none.
of_hart-before : (period : ℕ) (mode : Mode) (hart first : ℕ) (logs : List ProgramLog) → hart < first
    → of_hart hart (messages_of_harts period mode first logs) ≡ []
of_hart-before period mode hart first [] before = refl
of_hart-before period mode hart first (log ∷ logs) before =
    of_hart-append hart (messages_from first 0 (payloads period mode log))
    (messages_of_harts period mode (first + 1) logs)
    ∙ ap (λ none. none ++ of_hart hart (messages_of_harts period mode (first + 1) logs))
    (of_hart-none hart first 0 (payloads period mode log) (λ same. omega (arith, same, before)))
    ∙ of_hart-before period mode hart (first + 1) logs (omega (arith, before))

-- Of the hart of a log there are the messages of this log.
pub of_hart-log : (period : ℕ) (mode : Mode) (first k hart : ℕ) (logs : List ProgramLog) (log : ProgramLog)
    → hart ≡ first + k → slice_get logs k ≡ Some log
    → of_hart hart (messages_of_harts period mode first logs) ≡ messages_from hart 0 (payloads period mode log)
of_hart-log period mode first k hart [] log place at = cc
of_hart-log period mode first zero hart (one ∷ logs) log place at =
    let here : first ≡ hart = omega (arith, place) in
    let rest = messages_of_harts period mode (first + 1) logs in
    of_hart-append hart (messages_from first 0 (payloads period mode one)) rest
    ∙ ap (λ h. of_hart hart (messages_from h 0 (payloads period mode one)) ++ of_hart hart rest) here
    ∙ ap (λ own. own ++ of_hart hart rest) (of_hart-same hart 0 (payloads period mode one))
    ∙ ap (λ none. messages_from hart 0 (payloads period mode one) ++ none)
    (of_hart-before period mode hart (first + 1) logs (omega (arith, place)))
    ∙ append-nil (messages_from hart 0 (payloads period mode one))
    ∙ ap (λ (l : ProgramLog). messages_from hart 0 (payloads period mode l)) (same_Some one log at)
of_hart-log period mode first (suc k) hart (one ∷ logs) log place at =
    of_hart-append hart (messages_from first 0 (payloads period mode one))
    (messages_of_harts period mode (first + 1) logs)
    ∙ ap (λ none. none ++ of_hart hart (messages_of_harts period mode (first + 1) logs))
    (of_hart-none hart first 0 (payloads period mode one) (λ same. omega (arith, same, place)))
    ∙ of_hart-log period mode (first + 1) k hart logs log (omega (arith, place)) at

packets_in-payloads : (hart number : ℕ) (ps : List Packet) → All InProfile ps
    → packets_in (messages_from hart number (map payload_of ps)) ≡ ps
packets_in-payloads hart number [] profile = refl
packets_in-payloads hart number (p ∷ ps) profile =
    packets_in-cons (record { hart = hart; number = number; payload = payload_of p })
    (messages_from hart (number + 1) (map payload_of ps)) p (reading-payload_of p (All-head InProfile p ps profile))
    ∙ ap (λ later. p ∷ later) (packets_in-payloads hart (number + 1) ps (All-tail InProfile p ps profile))

-- And their packets are its packets.
pub packets_of-log : (period : ℕ) (mode : Mode) (hart : ℕ) (logs : List ProgramLog) (log : ProgramLog)
    → slice_get logs hart ≡ Some log → IsSound period mode log
    → packets_of hart (messages_of_harts period mode 0 logs) ≡ packets (words_of log.program) period mode log.events
packets_of-log period mode hart logs log at sound =
    ap packets_in (of_hart-log period mode 0 hart hart logs log (omega arith) at)
    ∙ packets_in-payloads hart 0 (packets (words_of log.program) period mode log.events) sound.profile

-- The number of a message of payloads is how many stand before it.
pub number-front : (hart number : ℕ) (ps : List (List ℕ)) (front : List Message) (message : Message)
    (later : List Message) → messages_from hart number ps ≡ front ++ message ∷ later
    → message.number ≡ number + length front
number-front hart number [] [] message later is = cc
number-front hart number [] (first ∷ front) message later is = cc
number-front hart number (payload ∷ ps) [] message later is =
    let same : message.number ≡ number = cc in
    omega (arith, same)
number-front hart number (payload ∷ ps) (first ∷ front) message later is =
    let behind : messages_from hart (number + 1) ps ≡ front ++ message ∷ later = cc in
    let counted = number-front hart (number + 1) ps front message later behind in
    omega (arith, counted)
