-- The next message of a hart of whose messages some are lost.
use Rattle.std.proofs.Common.{◌≡◌, inl, inr, ℕ, zero, suc, ◌+◌, ◌<◌, ◌^◌, All, List, [], ◌∷◌}
use Rattle.std.proofs.Common.{drop, map, length, Ok, refl, ap, subst, arith}
use Rattle.std.proofs.lemmas.List.Elements.{All-head, All-tail}
use Rattle.rvclass.proofs.WordsLemmas.{words_of-IsProgram}
use Rattle.rvclass.specs.Fetch.{words_of}
use Rattle.legalpath.specs.ProgramLog.{ProgramLog, IsLegalLog}
use Rattle.payload.proofs.ReadingLaws.{reading-payload_of}
use Rattle.payload.specs.Profile.{InProfile}
use Rattle.payload.specs.Reading.{reading}
use Rattle.payload.specs.Spelling.{payload_of}
use Rattle.payload.specs.declared.mode.Mode.{Mode}
use Rattle.payload.specs.declared.packet.Packet.{Packet}
use Rattle.encoder.proofs.CountLemmas.{few_packets}
use Rattle.encoder.proofs.ProfileLemmas.{packets_in_profile}
use Rattle.encoder.specs.Packets.{packets}
use Rattle.message.specs.Numbered.{messages_from}
use Rattle.message.specs.declared.message.Message.{Message}
use Rattle.losses.specs.Losses.{AreSomeOf}

-- A message of a log's, of which so many before it are lost: its number, its packet, and what comes behind it.
pub record IsNext (hart next : ℕ) (ps : List Packet) (message : Message) (messages : List Message) : Type 0 where
  pub missed : ℕ
  pub packet : Packet
  pub later : List Packet
  pub number : message.number ≡ next + missed
  pub here : drop missed ps ≡ packet ∷ later
  pub payload : message.payload ≡ payload_of packet
  pub some : AreSomeOf messages (messages_from hart (next + missed + 1) (map payload_of later))

-- The first of some messages is one of those that were sent.
pub next_of_some : (hart next : ℕ) (ps : List Packet) (message : Message) (messages : List Message)
    → AreSomeOf (message ∷ messages) (messages_from hart next (map payload_of ps))
    → IsNext hart next ps message messages
next_of_some hart next [] message messages some = absurd some
next_of_some hart next (p ∷ ps) message messages (inl (is, rest)) =
    let number = ap (λ (m : Message). m.number) is in
    record {
      missed = 0;
      packet = p;
      later = ps;
      number = omega (arith, number);
      here = refl;
      payload = ap (λ (m : Message). m.payload) is;
      some = subst (λ n. AreSomeOf messages (messages_from hart n (map payload_of ps))) (omega arith) rest;
    }
next_of_some hart next (p ∷ ps) message messages (inr some) =
    let n = next_of_some hart (next + 1) ps message messages some in
    let number = n.number in
    record {
      missed = suc n.missed;
      packet = n.packet;
      later = n.later;
      number = omega (arith, number);
      here = n.here;
      payload = n.payload;
      some = subst (λ at. AreSomeOf messages (messages_from hart at (map payload_of n.later))) (omega arith) n.some;
    }

-- An item of a list at a place.
pub place_within : {X : Type 0} (count : ℕ) (xs : List X) (x : X) (later : List X) → drop count xs ≡ x ∷ later
    → count < length xs
place_within zero [] x later is = cc
place_within zero (y ∷ xs) x later is = omega arith
place_within (suc count) [] x later is = cc
place_within (suc count) (y ∷ xs) x later is =
    let within = place_within count xs x later is in omega (arith, within)

pub All-at : {X : Type 0} (P : X → Type 0) (count : ℕ) (xs : List X) (x : X) (later : List X) → All P xs
    → drop count xs ≡ x ∷ later → P x
All-at P zero [] x later all is = cc
All-at P zero (y ∷ xs) x later all is = let same : y ≡ x = cc in subst P same (All-head P y xs all)
All-at P (suc count) [] x later all is = cc
All-at P (suc count) (y ∷ xs) x later all is = All-at P count xs x later (All-tail P y xs all) is

-- A packet of a legal log is read back from its payload, and its number is below 2^63.
pub packet_of_log : (period : ℕ) (mode : Mode) (log : ProgramLog) → IsLegalLog log → (number : ℕ) (p : Packet)
    (later : List Packet) → drop number (packets (words_of log.program) period mode log.events) ≡ p ∷ later
    → (reading (payload_of p) ≡ Ok p) × (number < 2 ^ 63)
packet_of_log period mode log legal number p later here =
    let words = words_of log.program in
    let profile = packets_in_profile words (words_of-IsProgram log.program legal.image).even period mode log.events
    legal.numbers legal.legal in
    let within = place_within number (packets words period mode log.events) p later here in
    let few = few_packets words period mode log.events in
    let short = legal.short in (
      reading-payload_of p (All-at InProfile number (packets words period mode log.events) p later profile here),
      omega (arith, within, few, short),
    )
