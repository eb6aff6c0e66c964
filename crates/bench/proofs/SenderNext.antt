-- Where a sender stands behind its next message.
use Rattle.std.proofs.Common.{◌≡◌, ◌≤◌, ◌+◌, ◌^◌, ℕ, List, Option, Some, slice_get, ap, ◌∙◌, arith}
use Rattle.std.proofs.lemmas.List.{length-map}
use Rattle.std.proofs.lemmas.Option.{slice_get_within}
use Rattle.rvclass.specs.Fetch.{words_of}
use Rattle.legalpath.specs.ProgramLog.{IsLegalLog, ProgramLog}
use Rattle.payload.specs.Spelling.{payload_of}
use Rattle.payload.specs.declared.mode.Mode.{Mode}
use Rattle.encoder.proofs.CountLemmas.{few_packets}
use Rattle.encoder.specs.Packets.{packets}
use Rattle.encoder.specs.Payloads.{payloads}
use Rattle.encoder.specs.SourceAt.{IsAt, SourceAt, number_behind}
use Rattle.bench.specs.declared.sender.Sender.{Sender}
use Rattle.bench.specs.steps.Sending.{sender_at}

-- The number of a message has 64 bits.
pub few_numbers : (period : ℕ) (mode : Mode) (count : ℕ) (log : ProgramLog) → IsLegalLog log → (payload : List ℕ)
    → slice_get (payloads period mode log) count ≡ Some payload
    → count ≤ 2 ^ 24 + 1
few_numbers period mode count log legal payload given =
    let words = words_of log.program in
    let within = slice_get_within (payloads period mode log) count payload given in
    let mapped = length-map (packets words period mode log.events) payload_of in
    omega (arith, within, mapped, few_packets words period mode log.events, legal.short)

module _ {B : Type 0} (period : ℕ) (mode : Mode) (count : ℕ) (log : ProgramLog) where
  abbrev pub sender_of : SourceAt → ℕ → Sender B
  sender_of source number = record { source = source; number = number }

  -- The source stands where the sender does.
  pub source_at : (sender : Sender B) → sender ≡ sender_at period mode log count
      → IsAt period mode log count sender.source
  source_at sender is = ap (λ (s : Sender B). s.source) is

  pub number_at : (sender : Sender B) → sender ≡ sender_at period mode log count → sender.number ≡ count
  number_at sender is = ap (λ (s : Sender B). s.number) is

  -- Behind what the source gave it stands where its number says.
  pub stands_behind : (source : SourceAt) (number : ℕ) (result payload : Option (List ℕ)) → result ≡ payload
      → IsAt period mode log (number_behind count result) source → number ≡ number_behind count result
      → sender_of source number ≡ sender_at period mode log (number_behind count payload)
  stands_behind source number result payload given moved counted =
      ap (λ some. sender_of some number) moved
      ∙ ap (sender_of (record { log = log; period = period; mode = mode; number = number_behind count result })) counted
      ∙ ap (λ some. sender_at period mode log (number_behind count some)) given
