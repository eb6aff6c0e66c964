-- Messages of a legal log that have the packets of their numbers, which rise: they are taken in turn, and they describe
-- the parts of the log by these numbers.
use Rattle.std.proofs.Common.{◌≡◌, ◌⊎◌, inl, inr, ℕ, zero, suc, ◌+◌, ◌-◌, List, [], ◌∷◌, ◌++◌, drop, map}
use Rattle.std.proofs.Common.{false, refl, sym, ap, subst, ◌∙◌, arith}
use Rattle.std.proofs.lemmas.List.{drop-drop}
use Rattle.retire.specs.declared.event.Event.{Event}
use Rattle.rvclass.proofs.WordsLemmas.{words_of-IsProgram}
use Rattle.rvclass.specs.Fetch.{words_of}
use Rattle.rvclass.specs.Words.{Words, IsProgram}
use Rattle.legalpath.specs.ProgramLog.{ProgramLog, IsLegalLog}
use Rattle.payload.specs.Reading.{reading}
use Rattle.payload.specs.Spelling.{payload_of}
use Rattle.payload.specs.declared.mode.Mode.{Mode}
use Rattle.payload.specs.declared.packet.Packet.{Packet}
use Rattle.payload.specs.declared.packet.Packet.TheVariants as packet
use Rattle.payload.specs.declared.packet.Support.TheVariants as support
use Rattle.encoder.specs.Packets.{packets}
use Rattle.message.specs.Accepting.{next_of}
use Rattle.message.specs.Numbered.{messages_from}
use Rattle.message.specs.OfHart.{packet_or_none}
use Rattle.message.specs.declared.hart.Hart.{Hart}
use Rattle.message.specs.declared.message.Message.{Message}
use Rattle.roundtrip.specs.Reach.{stretches}
use Rattle.losses.specs.Apart.{AreRising}
use Rattle.losses.specs.DescribedParts.{MessagesDescribe, RunsDescribe}
use Rattle.losses.specs.Losses.{AreSomeOf, BeginAtZero}
use Rattle.losses.specs.Parts.{LogPart, parts}
use Rattle.losses.specs.Runs.{Run, first_run, longer, mode_in, mode_or, over_before, run_behind, run_of, runs, runs_on}
use Rattle.losses.proofs.BlockDescribed.{Rest, rest_drop, rest_of_log}
use Rattle.losses.proofs.BlockLemmas.{blocks_at_first}
use Rattle.losses.proofs.InTurn.{AreTakenFrom}
use Rattle.losses.proofs.NextMessage.{next_of_some, packet_of_log}
use Rattle.losses.proofs.RunLemmas.{mode_kept}
use Rattle.losses.proofs.RunsOfLog.{HasPacket, HavePackets, number_of, runs_describe_parts}
use Rattle.losses.proofs.TraceLemmas.{before_another, drop_one_more}

-- There is a packet where one is behind.
some_behind : (ps : List Packet) (missed : ℕ) (p : Packet) (later : List Packet) → drop missed ps ≡ p ∷ later
    → (q : Packet) × (behind : List Packet) × (ps ≡ q ∷ behind)
some_behind (q ∷ behind) missed p later is = (q, behind, refl)
some_behind [] zero p later is = cc
some_behind [] (suc missed) p later is = cc

heads_same : (p q : Packet) (ps qs : List Packet) → p ∷ ps ≡ q ∷ qs → p ≡ q
heads_same p q ps qs is = cc

module _ (period : ℕ) (mode : Mode) (log : ProgramLog) (legal : IsLegalLog log) where
  abbrev words : Words
  words = words_of log.program

  is_program : IsProgram words
  is_program = words_of-IsProgram log.program legal.image

  abbrev ps : List Packet
  ps = packets words period mode log.events

  abbrev pieces : List (List Event)
  pieces = stretches words period log.events

  -- Some of its messages have the packets of their numbers, which rise.
  pub some_have : (hart : ℕ) (messages : List Message) (next : ℕ)
      → AreSomeOf messages (messages_from hart next (map payload_of (drop next ps)))
      → HavePackets ps messages × AreRising next (map number_of messages)
  some_have hart [] next some = (tt, tt)
  some_have hart (message ∷ messages) next some =
      let n = next_of_some hart next (drop next ps) message messages some in
      let number = n.number in
      let here : drop message.number ps ≡ n.packet ∷ n.later =
      ap (λ k. drop k ps) number ∙ sym (drop-drop n.missed next ps) ∙ n.here in
      let facts = packet_of_log period mode log legal message.number n.packet n.later here in
      let at : next + n.missed + 1 ≡ message.number + 1 = omega (arith, number) in
      let rest : n.later ≡ drop (message.number + 1) ps =
      sym (drop_one_more message.number ps n.packet n.later here) in
      let later = some_have hart messages (message.number + 1)
      (subst (λ l. AreSomeOf messages (messages_from hart (message.number + 1) (map payload_of l))) rest
      (subst (λ k. AreSomeOf messages (messages_from hart k (map payload_of n.later))) at n.some)) in (
        (
          record { packet = n.packet; later = n.later; here = here; read = ap reading n.payload ∙ facts.0 },
          later.0,
        ),
        (omega (arith, number), later.1),
      )

  -- Such messages are taken in turn, until the packet that closes the log.
  pub taken_in_turn : (messages : List Message) (expects : Hart) → HavePackets ps messages
      → AreRising expects.expected (map number_of messages)
      → ((p : Packet) (later : List Packet) → drop expects.expected ps ≡ p ∷ later → expects.closed ≡ false)
      → AreTakenFrom expects messages
  taken_in_turn [] expects have rising stays = tt
  taken_in_turn (message ∷ messages) expects (has, have) (least, rising) stays =
      let missed = message.number - expects.expected in
      let at : expects.expected + missed ≡ message.number = omega (arith, least) in
      let first = some_behind (drop expects.expected ps) missed has.packet has.later
      (drop-drop missed expects.expected ps ∙ ap (λ k. drop k ps) at ∙ has.here) in
      let rest = rest_drop words mode message.number ps pieces
      (rest_of_log words is_program period mode log.events legal.legal) in
      let more = drop_one_more message.number ps has.packet has.later has.here in (
        record {
          goes = stays first.0 first.1 first.2;
          least = least;
          small = (packet_of_log period mode log legal message.number has.packet has.later has.here).1;
          packet = has.packet;
          read = has.read;
        },
        taken_in_turn messages (next_of message.number has.packet) have rising (λ q behind is.
            before_another words mode has.packet q behind (drop message.number pieces)
            (subst (λ l. Rest words mode l (drop message.number pieces))
            (has.here ∙ ap (λ l. has.packet ∷ l) (sym more ∙ is)) rest)),
      )

  -- The mode in which they are read is the log's, where it is known.
  module _ (handed : Mode) (message : Message) (messages : List Message) (has : HasPacket ps message)
      (known : (handed ≡ mode) ⊎ (message.number ≡ 0)) where
    abbrev runs_from : ℕ → List Run
    runs_from missed = over_before missed first_run
        ++ runs_on (longer (run_behind missed first_run) (packet_or_none (reading message.payload)))
        (message.number + 1) messages

    handed_right : (missed : ℕ) → message.number ≡ suc missed → handed ≡ mode
    handed_right missed is = by_known known
      where
        by_known : (handed ≡ mode) ⊎ (message.number ≡ 0) → handed ≡ mode
        by_known (inl same) = same
        by_known (inr first) = absurd (omega (arith, is, first))

    mode_by : (missed : ℕ) → message.number ≡ missed → mode_in handed (runs_from missed) ≡ mode
    mode_by zero is =
        let opens : packet.Support (support.Open mode) ≡ has.packet =
        heads_same (packet.Support (support.Open mode)) has.packet _ has.later
        (sym (ap (λ k. drop k ps) is) ∙ has.here) in
        ap (λ r. mode_in handed (runs_on (run_of 0 (packet_or_none r)) (message.number + 1) messages)) has.read
        ∙ mode_kept handed has.packet [] (message.number + 1) messages
        ∙ sym (ap (mode_or handed) opens)
    mode_by (suc missed) is = handed_right missed is

    mode_right : mode_in handed (runs (message ∷ messages)) ≡ mode
    mode_right = mode_by (message.number - 0) (omega arith)

  described_by_mode : (handed : Mode) (messages : List Message) → HavePackets ps messages
      → (handed ≡ mode) ⊎ BeginAtZero (map number_of messages) → (found : List LogPart)
      → RunsDescribe words mode (runs messages) found → MessagesDescribe words handed messages found
  described_by_mode handed [] have known found described = described
  described_by_mode handed (message ∷ messages) have known found described =
      subst (λ m. RunsDescribe words m (runs (message ∷ messages)) found)
      (sym (mode_right handed message messages have.0 known)) described

  pub some_describe : (handed : Mode) (messages : List Message) → HavePackets ps messages
      → AreRising 0 (map number_of messages) → (handed ≡ mode) ⊎ BeginAtZero (map number_of messages)
      → MessagesDescribe words handed messages (parts words period mode log.events (map number_of messages))
  some_describe handed messages have rising known =
      described_by_mode handed messages have known (parts words period mode log.events (map number_of messages))
      (subst (RunsDescribe words mode (runs messages)) (blocks_at_first ps pieces (map number_of messages))
      (runs_describe_parts words is_program period mode log.events legal.legal messages have 0 0 0 0 (λ is. refl)
      (λ is. refl) refl rising))
