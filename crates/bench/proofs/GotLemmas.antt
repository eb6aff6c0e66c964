-- What comes of a hart whose messages carry the first payloads of its log.
use Rattle.std.proofs.Common.{◌≡◌, ◌==◌, ℕ, Bool, true, All, List, [], ◌∷◌, length, map, take, sum, ap, subst, ◌∙◌}
use Rattle.std.proofs.lemmas.List.Elements.{All-cons, All-head, All-nil, All-tail}
use Rattle.retire.specs.declared.event.Event.{Event}
use Rattle.rvclass.proofs.WordsLemmas.{words_of-IsProgram}
use Rattle.rvclass.specs.Fetch.{words_of}
use Rattle.rvclass.specs.Words.{Words, IsProgram}
use Rattle.legalpath.specs.ProgramLog.{ProgramLog, IsLegalLog}
use Rattle.payload.specs.ClosedTrace.{last_is_closing}
use Rattle.payload.specs.Profile.{InProfile}
use Rattle.payload.specs.declared.mode.Mode.{Mode}
use Rattle.payload.specs.declared.packet.Packet.{Packet}
use Rattle.encoder.proofs.ProfileLemmas.{packets_in_profile}
use Rattle.encoder.specs.Packets.{packets}
use Rattle.encoder.specs.Payloads.{payloads}
use Rattle.decoder.proofs.UniqueLemmas.{one_log}
use Rattle.decoder.specs.Describes.{Describes}
use Rattle.roundtrip.proofs.FirstPackets.{first_packets_describe}
use Rattle.roundtrip.specs.Reach.{reach}
use Rattle.message.specs.OfHart.{packets_in}
use Rattle.message.specs.declared.message.Message.{Message}
use Rattle.funnel.specs.Payloads.{ClosesOnlyLast, payloads_in}
use Rattle.bench.specs.Got.{Got, HasGot, got_after, kept}
use Rattle.bench.specs.Replayed.{got_from}
use Rattle.bench.proofs.ClosingLast.{payloads_close_last}
use Rattle.bench.proofs.TakenPackets.{AreFirst, first_ended, first_packets}
use Rattle.bench.proofs.WholeLog.{has_got}

module _ (period : ℕ) (mode : Mode) (log : ProgramLog) (legal : IsLegalLog log) where
  pub profile : All InProfile (packets (words_of log.program) period mode log.events)
  profile =
      packets_in_profile (words_of log.program) (words_of-IsProgram log.program legal.image).even
      period mode log.events legal.numbers legal.legal

  -- What is decoded is the beginning of the log that the first packets reach.
  pub got_first : (messages : List Message) (decoded : List Event)
      → payloads_in messages ≡ take (length messages) (payloads period mode log)
      → Describes (words_of log.program) (packets_in messages) decoded
      → HasGot period mode true log (length messages) (got_from messages decoded)
  got_first messages decoded carried described =
      has_got period mode (length messages) true log (got_from messages decoded) legal first.few same
    where
      words : Words
      words = words_of log.program

      program : IsProgram words
      program = words_of-IsProgram log.program legal.image

      ps : List Packet
      ps = packets words period mode log.events

      count : ℕ
      count = length messages

      first : AreFirst messages ps
      first = first_packets messages ps profile carried

      reached : decoded ≡ take (reach words period mode log.events count) log.events
      reached =
          one_log words program (take count ps) decoded (take (reach words period mode log.events count) log.events)
          (subst (λ some. Describes words some decoded) first.packets described)
          (first_packets_describe words program period mode log.events legal.legal count)

      ended : last_is_closing (packets_in messages) ≡ (count == length ps)
      ended = ap last_is_closing first.packets ∙ first_ended words period mode log.events count first.few

      got : List Packet → ℕ → List Event → Bool → Got
      got some bytes events closed =
          record { packets = some; taken = count; bytes = bytes; decoded = events; closed = closed }

      same : got_from messages decoded ≡ kept true (got_after period mode log count)
      same =
          ap (λ some. got some (sum (map length (payloads_in messages))) decoded
          (last_is_closing (packets_in messages))) first.packets
          ∙ ap (λ carry. got (take count ps) (sum (map length carry)) decoded (last_is_closing (packets_in messages)))
          carried
          ∙ ap (λ events. got (take count ps) (sum (map length (take count (payloads period mode log)))) events
          (last_is_closing (packets_in messages))) reached
          ∙ ap (got (take count ps) (sum (map length (take count (payloads period mode log))))
          (take (reach words period mode log.events count) log.events)) ended

-- No payload of legal logs closes before the last of its log.
pub close_last : (period : ℕ) (mode : Mode) (logs : List ProgramLog) → All IsLegalLog logs
    → All ClosesOnlyLast (map (payloads period mode) logs)
close_last period mode [] legal = All-nil ClosesOnlyLast
close_last period mode (log ∷ logs) legal =
    All-cons ClosesOnlyLast (payloads period mode log) (map (payloads period mode) logs)
    (payloads_close_last (words_of log.program) period mode log.events
    (profile period mode log (All-head IsLegalLog log logs legal)))
    (close_last period mode logs (All-tail IsLegalLog log logs legal))
