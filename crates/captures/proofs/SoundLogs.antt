-- What is known of each log of a capture.
use Rattle.std.proofs.Common.{ℕ, ◌+◌, ◌≤◌, ◌^◌, All, List, length, arith}
use Rattle.rvclass.proofs.WordsLemmas.{words_of-IsProgram}
use Rattle.rvclass.specs.Fetch.{words_of}
use Rattle.rvclass.specs.Image.{IsImage}
use Rattle.legalpath.specs.Legal.{Legal}
use Rattle.legalpath.specs.ProgramLog.{ProgramLog}
use Rattle.captures.specs.Returned.{IsLongLegalLog}
use Rattle.payload.specs.Profile.{InProfile}
use Rattle.payload.specs.declared.mode.Mode.{Mode}
use Rattle.encoder.proofs.ProfileLemmas.{packets_in_profile}
use Rattle.encoder.specs.Packets.{packets}
use Rattle.encoder.proofs.CountLemmas.{few_packets}

-- The log is legal for its program, whose bytes are an image; its packets are of the profile, and fewer than a hart may
-- send.
pub record IsSound (period : ℕ) (mode : Mode) (log : ProgramLog) : Type 0 where
  pub image : IsImage log.program
  pub legal : Legal (words_of log.program) log.events
  pub profile : All InProfile (packets (words_of log.program) period mode log.events)
  pub few : length (packets (words_of log.program) period mode log.events) ≤ 2 ^ 32 + 1

-- Each log of a capture is sound.
sound : (period : ℕ) (mode : Mode) (log : ProgramLog) → IsLongLegalLog log → IsSound period mode log
sound period mode log legal =
    let words = words_of log.program in
    let short = legal.short in
    record {
      image = legal.image;
      legal = legal.legal;
      profile =
          packets_in_profile words (words_of-IsProgram log.program legal.image).even period mode log.events
          legal.numbers legal.legal;
      few = omega (arith, few_packets words period mode log.events, short);
    }

pub sound_logs : (period : ℕ) (mode : Mode) (logs : List ProgramLog) → All IsLongLegalLog logs
    → All (IsSound period mode) logs
sound_logs period mode logs legal = λ k d within. sound period mode _ (legal k d within)
