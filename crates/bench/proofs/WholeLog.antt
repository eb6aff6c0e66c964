-- All packets of a legal log reach its end.
use Rattle.std.proofs.Common.{◌≡◌, ◌≤◌, ◌==◌, ◌∙◌, ℕ, Bool, true, length, take, sym, ap, subst, arith}
use Rattle.std.proofs.lemmas.Bool.{eqb-true}
use Rattle.std.proofs.lemmas.List.{take_all}
use Rattle.rvclass.proofs.WordsLemmas.{words_of-IsProgram}
use Rattle.rvclass.specs.Fetch.{words_of}
use Rattle.legalpath.specs.ProgramLog.{ProgramLog, IsLegalLog}
use Rattle.payload.specs.declared.mode.Mode.{Mode}
use Rattle.encoder.specs.Packets.{packets}
use Rattle.decoder.proofs.UniqueLemmas.{one_log}
use Rattle.decoder.specs.Describes.{Describes}
use Rattle.roundtrip.proofs.FirstPackets.{first_packets_describe, packets_describe}
use Rattle.roundtrip.specs.Reach.{reach}
use Rattle.bench.specs.Got.{Got, HasGot, got_after, kept}

-- So many packets of a log as there are reach its end.
reach-whole : (period : ℕ) (mode : Mode) (log : ProgramLog) → IsLegalLog log → (count : ℕ)
    → (count == length (packets (words_of log.program) period mode log.events)) ≡ true
    → take (reach (words_of log.program) period mode log.events count) log.events ≡ log.events
reach-whole period mode log legal count all =
    let words = words_of log.program in
    let program = words_of-IsProgram log.program legal.image in
    let ps = packets words period mode log.events in
    let first = take (reach words period mode log.events count) log.events in
    let every = take_all count ps (omega (arith, eqb-true count (length ps) all)) in
    one_log words program ps first log.events
    (subst (λ some. Describes words some first) every
    (first_packets_describe words program period mode log.events legal.legal count))
    (packets_describe words program period mode log.events legal.legal)

-- What comes of so many packets of a legal log is what a hart has got.
pub has_got : (period : ℕ) (mode : Mode) (count : ℕ) (keep : Bool) (log : ProgramLog) (got : Got) → IsLegalLog log
    → count ≤ length (packets (words_of log.program) period mode log.events)
    → got ≡ kept keep (got_after period mode log count)
    → HasGot period mode keep log count got
has_got period mode count keep log got legal few same = record {
  few = few;
  same = same;
  whole = λ closed.
      ap (λ (g : Got). g.decoded) same
      ∙ reach-whole period mode log legal count (sym (ap (λ (g : Got). g.closed) same) ∙ closed);
}
