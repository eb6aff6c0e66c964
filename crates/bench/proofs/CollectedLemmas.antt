-- What a collector has of a hart of which first packets were taken in, and what one message more of it changes.
use Rattle.std.proofs.Common.{◌≡◌, ◌+◌, ◌*◌, ◌<◌, ◌≤◌, ◌^◌, ◌==◌, ⊎_elim, ℕ, zero, suc, Bool, true, false, All, List}
use Rattle.std.proofs.Common.{[], ◌∷◌, ◌++◌, Some, Ok, length, map, take, sum, set, slice_get, refl, sym, ap, subst}
use Rattle.std.proofs.Common.{◌∙◌, add-one, arith}
use Rattle.std.proofs.lemmas.Bool.{ne_eqb}
use Rattle.std.proofs.lemmas.List.{length-map}
use Rattle.std.proofs.lemmas.List.Elements.{All-cons, All-head, All-nil, All-tail}
use Rattle.std.proofs.lemmas.List.Sums.{sum-map, sum_by-le, sum_by-take-le, sum_by_push}
use Rattle.std.proofs.lemmas.Option.{slice_get_cases, slice_get_within, same_Some}
use Rattle.std.specs.Prelude.{if◌then◌else◌}
use Rattle.rvclass.proofs.WordsLemmas.{words_of-IsProgram}
use Rattle.rvclass.specs.Fetch.{words_of}
use Rattle.rvclass.specs.Words.{Words, IsProgram}
use Rattle.legalpath.specs.ProgramLog.{IsLegalLog, ProgramLog}
use Rattle.payload.proofs.ReadingLaws.{payload_of-shortest, reading-payload_of}
use Rattle.payload.specs.Closing.{is_closing_packet}
use Rattle.payload.specs.ClosedTrace.{last_is_closing}
use Rattle.payload.specs.Profile.{InProfile}
use Rattle.payload.specs.Reading.{reading}
use Rattle.payload.specs.Spelling.{payload_of}
use Rattle.payload.specs.declared.mode.Mode.{Mode}
use Rattle.payload.specs.declared.packet.Packet.{Packet}
use Rattle.encoder.proofs.CountLemmas.{few_packets}
use Rattle.encoder.specs.Packets.{packets}
use Rattle.encoder.specs.Payloads.{payloads}
use Rattle.decoder.proofs.UniqueLemmas.{one_log}
use Rattle.decoder.specs.Describes.{Describes}
use Rattle.roundtrip.proofs.FirstPackets.{first_packets_describe}
use Rattle.roundtrip.specs.Reach.{reach}
use Rattle.message.proofs.Answering.{answer-next}
use Rattle.message.proofs.Elements.{All-slice_get}
use Rattle.message.proofs.HartMessages.{last_is_closing-next}
use Rattle.message.proofs.Moving.{harts_after-ok}
use Rattle.message.specs.Accepting.{accepting, answer_of, harts_after, next_of}
use Rattle.message.specs.declared.hart.Hart.{Hart}
use Rattle.message.specs.declared.message.Message.{Message}
use Rattle.receiver.specs.Holds.{HoldsHart}
use Rattle.receiver.specs.Received.{IsReceived, Received}
use Rattle.bench.specs.Collected.{Collected, HasCollected, IsMessageOf, Taken, packets_with, saturating_sum}
use Rattle.bench.specs.Collected.{one_packet_more}
use Rattle.bench.specs.Got.{Got, got_after, kept}
use Rattle.bench.proofs.ClosingLast.{packet_at}
use Rattle.bench.proofs.GotLemmas.{profile}
use Rattle.bench.proofs.TakenPackets.{first_ended}

-- The element at a place within a list.
pub element : {X : Type 0} (xs : List X) (i : ℕ) → i < length xs → (x : X) × (slice_get xs i ≡ Some x)
element xs i within =
    ⊎_elim (λ found. (found.0, found.2)) (λ past. absurd (let beyond = past.0 in omega (arith, within, beyond)))
    (slice_get_cases xs i).1

-- What was written at a place within a list.
pub set-at : {X : Type 0} (xs : List X) (i : ℕ) (y : X) → i < length xs → slice_get (set xs i y) i ≡ Some y
set-at [] i y within = absurd (omega (arith, within))
set-at (x ∷ xs) zero y within = refl
set-at (x ∷ xs) (suc i) y within = set-at xs i y (omega (arith, within))

-- One element more than the first ones.
take-suc : {X : Type 0} (xs : List X) (n : ℕ) (x : X) → slice_get xs n ≡ Some x → take (suc n) xs ≡ take n xs ++ x ∷ []
take-suc [] n x is = cc
take-suc (a ∷ xs) zero x is = ap (λ a. a ∷ []) (same_Some a x is)
take-suc (a ∷ xs) (suc n) x is = ap (λ ys. a ∷ ys) (take-suc xs n x is)

pub take-next : {X : Type 0} (xs : List X) (n : ℕ) (x : X) → slice_get xs n ≡ Some x
    → take (n + 1) xs ≡ take n xs ++ x ∷ []
take-next xs n x is = ap (λ n. take n xs) (add-one n) ∙ take-suc xs n x is

-- The sum of lengths, with one list more behind the others.
sum-lengths-next : (lists : List (List ℕ)) (list : List ℕ)
    → sum (map length (lists ++ list ∷ [])) ≡ sum (map length lists) + length list
sum-lengths-next lists list =
    sum-map length (lists ++ list ∷ []) ∙ sum_by_push length lists list
    ∙ ap (λ n. n + length list) (sym (sum-map length lists))

-- The sum of the first lengths, where all are at most 18.
sum-lengths-few : (lists : List (List ℕ)) (n : ℕ) → All (λ (list : List ℕ). length list ≤ 18) lists
    → sum (map length (take n lists)) ≤ length lists * 18
sum-lengths-few lists n few =
    let whole = sum_by-le length 18 lists few in
    let part = sum_by-take-le length lists n in
    let same = sum-map length (take n lists) in
    omega (arith, whole, part, same)

-- Payloads of packets of the profile have at most 18 bytes.
short_payloads : (ps : List Packet) → All InProfile ps → All (λ (list : List ℕ). length list ≤ 18) (map payload_of ps)
short_payloads [] good = All-nil (λ (list : List ℕ). length list ≤ 18)
short_payloads (one ∷ ps) good =
    All-cons (λ (list : List ℕ). length list ≤ 18) (payload_of one) (map payload_of ps)
    ((payload_of-shortest one (All-head InProfile one ps good)).extends).few
    (short_payloads ps (All-tail InProfile one ps good))

-- A number that is far from the largest is counted on.
saturating_sum-few : (number more : ℕ) → number + more < 2 ^ 64 → saturating_sum number more ≡ number + more
saturating_sum-few number more few = omega (arith, few)

-- What is kept of packets, with one more.
kept-next : (keep : Bool) (packet : Packet) (some : List Packet) (more : List Packet) → more ≡ some ++ packet ∷ []
    → packets_with keep packet (if keep then some else []) ≡ (if keep then more else [])
kept-next true packet some more same = sym same
kept-next false packet some more same = refl

-- What came of a hart, but for its events and whether it closed.
abbrev pub taken_by : Got → Bool → Taken
taken_by got refused = record { packets = got.packets; taken = got.taken; bytes = got.bytes; refused = refused }

module _ (period : ℕ) (mode : Mode) (log : ProgramLog) (legal : IsLegalLog log) where
  abbrev words : Words
  words = words_of log.program

  abbrev ps : List Packet
  ps = packets words period mode log.events

  program : IsProgram words
  program = words_of-IsProgram log.program legal.image

  few_all : length ps ≤ 2 ^ 24 + 2
  few_all = let short = legal.short in omega (arith, few_packets words period mode log.events, short)

  -- What is held of a hart of which so many packets were decoded is what they reach.
  pub held_first : (count hart : ℕ) (received : Received) → HoldsHart words hart (take count ps) received
      → count ≤ length ps
      → IsReceived received → hart < length received.expected
      → (slice_get received.lists hart ≡ Some (take (reach words period mode log.events count) log.events))
      × (slice_get received.closed hart ≡ Some (count == length ps))
  held_first count hart received holds few all known =
      let list = element received.lists hart (omega (arith, known, all.lists)) in
      let decoder = element received.decoders hart (omega (arith, known, all.decoders)) in
      let flag = element received.closed hart (omega (arith, known, all.closed)) in
      let same = one_log words program (take count ps) list.0
      (take (reach words period mode log.events count) log.events)
      (holds.stands decoder.0 list.0 decoder.1 list.1).described
      (first_packets_describe words program period mode log.events legal.legal count) in (
        list.1 ∙ ap Some same,
        flag.1 ∙ ap Some (holds.closed flag.0 flag.1 ∙ first_ended words period mode log.events count few),
      )

  -- The message carries the packet of this number.
  pub record IsNext (count : ℕ) (message : Message) : Type 0 where
    pub packet : Packet
    pub at : slice_get ps count ≡ Some packet
    pub read : reading message.payload ≡ Ok packet

  pub next_packet : (count : ℕ) (message : Message) → IsMessageOf period mode log count message → IsNext count message
  next_packet count message is =
      let found = packet_at ps count message.payload is.payload in
      record {
        packet = found.0;
        at = found.1;
        read = ap reading (sym found.2)
            ∙ reading-payload_of found.0
            (All-slice_get InProfile ps count found.0 found.1 (profile period mode log legal));
      }

  -- It is accepted.
  pub next_accepted : (count : ℕ) (message : Message) (collected : Collected)
      → HasCollected period mode log count message.hart collected
      → (is : IsMessageOf period mode log count message)
      → accepting collected.received.expected message ≡ Ok (next_packet count message is).packet
  next_accepted count message collected has is =
      let next = next_packet count message is in
      let within = slice_get_within ps count next.packet next.at in
      let hart : Hart = record { expected = count; closed = count == length ps } in
      ap (λ found. answer_of found message) has.expected
      ∙ answer-next hart message next.packet (ne_eqb count (length ps) (λ same. omega (arith, same, within)))
      (let few = few_all in omega (arith, within, few)) is.number next.read

  -- The packets with it are the first ones and one more.
  pub next_first : (count : ℕ) (message : Message) (is : IsMessageOf period mode log count message)
      → take (count + 1) ps ≡ take count ps ++ (next_packet count message is).packet ∷ []
  next_first count message is = let next = next_packet count message is in take-next ps count next.packet next.at

  -- They describe a beginning of the log.
  pub next_described : (count : ℕ) (message : Message) (is : IsMessageOf period mode log count message)
      → Describes words (take count ps ++ (next_packet count message is).packet ∷ [])
      (take (reach words period mode log.events (count + 1)) log.events)
  next_described count message is =
      subst (λ some. Describes words some (take (reach words period mode log.events (count + 1)) log.events))
      (next_first count message is)
      (first_packets_describe words program period mode log.events legal.legal (count + 1))

  -- What is expected then.
  pub next_expected : (count : ℕ) (message : Message) (collected : Collected)
      → HasCollected period mode log count message.hart collected
      → (is : IsMessageOf period mode log count message)
      → slice_get (harts_after collected.received.expected message) message.hart
      ≡ Some (record { expected = count + 1; closed = (count + 1) == length ps })
  next_expected count message collected has is =
      let next = next_packet count message is in
      let old = collected.received.expected in
      let within = slice_get_within ps count next.packet next.at in
      let known = slice_get_within old message.hart _ has.expected in
      let few : count + 1 ≤ length ps = omega (arith, within) in
      let moved = harts_after-ok old message (Ok next.packet) (sym (next_accepted count message collected has is)) in
      let closing : is_closing_packet next.packet ≡ ((count + 1) == length ps) =
      sym (last_is_closing-next (take count ps) next.packet) ∙ sym (ap last_is_closing (next_first count message is))
      ∙ first_ended words period mode log.events (count + 1) few in
      ap (λ harts. slice_get harts message.hart) moved
      ∙ set-at old message.hart (next_of message.number next.packet) known
      ∙ ap (λ number. Some (next_of number next.packet)) is.number
      ∙ ap (λ closed. Some (record { expected = count + 1; closed = closed })) closing

  -- What came of the hart then, but for its events and whether it closed.
  pub next_taken : (keep : Bool) (count : ℕ) (message : Message) (is : IsMessageOf period mode log count message)
      → one_packet_more keep (next_packet count message is).packet (length message.payload)
      (taken_by (kept keep (got_after period mode log count)) false)
      ≡ taken_by (kept keep (got_after period mode log (count + 1))) false
  next_taken keep count message is =
      let next = next_packet count message is in
      let within = slice_get_within ps count next.packet next.at in
      let some = kept-next keep next.packet (take count ps) (take (count + 1) ps) (next_first count message is) in
      let lists = payloads period mode log in
      let sums = ap (λ lists. sum (map length lists)) (take-next lists count message.payload is.payload)
      ∙ sum-lengths-next (take count lists) message.payload in
      let short = sum-lengths-few lists (count + 1) (short_payloads ps (profile period mode log legal)) in
      let room : sum (map length (take count lists)) + length message.payload < 2 ^ 64 =
      let few = few_all in omega (arith, few, sums, short, length-map ps payload_of) in
      let one : saturating_sum count 1 ≡ count + 1 = saturating_sum-few count 1
      (let few = few_all in omega (arith, few, within)) in
      let bytes : saturating_sum (sum (map length (take count lists))) (length message.payload)
      ≡ sum (map length (take (count + 1) lists)) =
      saturating_sum-few (sum (map length (take count lists))) (length message.payload) room ∙ sym sums in
      ap (λ some. taken some (saturating_sum count 1)
      (saturating_sum (sum (map length (take count lists))) (length message.payload)))
      some
      ∙ ap (λ number. taken (if keep then take (count + 1) ps else []) number
      (saturating_sum (sum (map length (take count lists))) (length message.payload))) one
      ∙ ap (taken (if keep then take (count + 1) ps else []) (count + 1)) bytes
    where
      taken : List Packet → ℕ → ℕ → Taken
      taken some number bytes = record { packets = some; taken = number; bytes = bytes; refused = false }
