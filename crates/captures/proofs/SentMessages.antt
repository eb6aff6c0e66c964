-- The messages of legal logs are in their ranges.
use Rattle.std.proofs.Common.{◌≤◌, ◌<◌, ◌^◌, ◌+◌, ℕ, All, List, [], ◌∷◌, arith, length, map}
use Rattle.std.proofs.lemmas.List.Elements.{All-append, All-cons, All-head, All-nil, All-tail}
use Rattle.rvclass.proofs.WordsLemmas.{words_of-IsProgram}
use Rattle.rvclass.specs.Fetch.{words_of}
use Rattle.legalpath.specs.ProgramLog.{ProgramLog}
use Rattle.payload.proofs.ReadingLaws.{payload_of-shortest}
use Rattle.payload.specs.Profile.{InProfile}
use Rattle.payload.specs.Spelling.{payload_of}
use Rattle.payload.specs.declared.mode.Mode.{Mode}
use Rattle.payload.specs.declared.packet.Packet.{Packet}
use Rattle.encoder.proofs.CountLemmas.{few_packets}
use Rattle.encoder.proofs.ProfileLemmas.{packets_in_profile}
use Rattle.encoder.specs.Packets.{packets}
use Rattle.encoder.specs.Payloads.{payloads}
use Rattle.message.specs.Cut.{IsMessage}
use Rattle.message.specs.Numbered.{messages_from}
use Rattle.message.specs.declared.message.Message.{Message}
use Rattle.captures.specs.Messages.{messages_of_harts}
use Rattle.captures.specs.Returned.{IsLongLegalLog}

-- The message is in its ranges, and its hart is below this count.
abbrev pub IsOf : ℕ → Message → Type 0
IsOf harts message = IsMessage message × (message.hart < harts)

packets_are : (harts hart number : ℕ) (ps : List Packet) → hart < harts → harts ≤ 2 ^ 16
    → number + length ps ≤ 2 ^ 63 → All InProfile ps
    → All (IsOf harts) (messages_from hart number (map payload_of ps))
packets_are harts hart number [] known few room profile = All-nil (IsOf harts)
packets_are harts hart number (p ∷ ps) known few room profile =
    let extends = (payload_of-shortest p (All-head InProfile p ps profile)).extends in
    let message : Message = record { hart = hart; number = number; payload = payload_of p } in
    let ranges : IsMessage message = record {
      hart = omega (arith, known, few);
      number = omega (arith, room);
      some = extends.some;
      few = extends.few;
      bytes = extends.each;
    } in
    All-cons (IsOf harts) message (messages_from hart (number + 1) (map payload_of ps)) (ranges, known)
    (packets_are harts hart (number + 1) ps known few (omega (arith, room)) (All-tail InProfile p ps profile))

-- Each message of these logs is in its ranges, and its hart is below the count.
pub messages_are_of : (period : ℕ) (mode : Mode) (harts hart : ℕ) (logs : List ProgramLog) → hart + length logs ≤ harts
    → harts ≤ 2 ^ 16 → All IsLongLegalLog logs → All (IsOf harts) (messages_of_harts period mode hart logs)
messages_are_of period mode harts hart [] room few legal = All-nil (IsOf harts)
messages_are_of period mode harts hart (log ∷ logs) room few legal =
    let log_is = All-head IsLongLegalLog log logs legal in
    let words = words_of log.program in
    let count = few_packets words period mode log.events in
    let short = log_is.short in
    All-append (IsOf harts) (messages_from hart 0 (payloads period mode log))
    (messages_of_harts period mode (hart + 1) logs)
    (packets_are harts hart 0 (packets words period mode log.events) (omega (arith, room)) few
    (omega (arith, count, short))
    (packets_in_profile words (words_of-IsProgram log.program log_is.image).even period mode log.events
    log_is.numbers log_is.legal))
    (messages_are_of period mode harts (hart + 1) logs (omega (arith, room)) few
    (All-tail IsLongLegalLog log logs legal))
