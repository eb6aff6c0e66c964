-- The runs of a legal log's messages, whose numbers rise, describe the parts of the log by these numbers.
use Rattle.std.proofs.Common.{◌≡◌, ℕ, zero, suc, ◌+◌, ◌-◌, ◌≤◌, List, [], ◌∷◌, ◌++◌, drop, map, take, refl, sym, ap}
use Rattle.std.proofs.Common.{subst, ◌∙◌, arith}
use Rattle.std.specs.Prelude.{Ok}
use Rattle.std.proofs.lemmas.List.{drop-drop}
use Rattle.retire.specs.declared.event.Event.{Event}
use Rattle.rvclass.specs.Words.{Words, IsProgram}
use Rattle.legalpath.specs.Legal.{Legal}
use Rattle.payload.specs.Reading.{reading}
use Rattle.payload.specs.declared.mode.Mode.{Mode}
use Rattle.payload.specs.declared.packet.Packet.{Packet}
use Rattle.message.specs.OfHart.{packet_or_none}
use Rattle.message.specs.declared.message.Message.{Message}
use Rattle.roundtrip.specs.Reach.{stretches}
use Rattle.losses.specs.Apart.{AreRising}
use Rattle.losses.specs.Blocks.{Block, block_before, blocks_from}
use Rattle.losses.specs.DescribedParts.{RunsDescribe}
use Rattle.losses.specs.Parts.{LogPart, parts_of_blocks}
use Rattle.losses.specs.Runs.{longer, missing_behind, over_before, packets_behind, run_of, runs_on}
use Rattle.losses.proofs.BlockLemmas.{block_of, blocks_behind, blocks_on}
use Rattle.losses.proofs.TraceLemmas.{take_one_more}
use Rattle.losses.proofs.BlockTraces.{block_trace, events_of_block, packets_of_log}

abbrev pub number_of : Message → ℕ
number_of message = message.number

-- The message has the packet of its number among these.
pub record HasPacket (ps : List Packet) (message : Message) : Type 0 where
  pub packet : Packet
  pub later : List Packet
  pub here : drop message.number ps ≡ packet ∷ later
  pub read : reading message.payload ≡ Ok packet

-- Each of the messages has.
abbrev pub HavePackets : List Packet → List Message → Type 0
HavePackets ps [] = Unit {0}
HavePackets ps (message ∷ messages) = HasPacket ps message × HavePackets ps messages

module _ (words : Words) (program : IsProgram words) (period : ℕ) (mode : Mode) (log : List Event)
    (legal : Legal words log) where
  abbrev pub ps : List Packet
  ps = packets_of_log words program period mode log legal

  abbrev pub pieces : List (List Event)
  pieces = stretches words period log

  -- The parts of a block under way and of those behind it.
  abbrev pub parts_on : Block → ℕ → List ℕ → List LogPart
  parts_on block next numbers = parts_of_blocks ps pieces (block_before block (blocks_from next numbers))

  -- One packet more of a block.
  pub one_more : (first count number : ℕ) (p : Packet) (later : List Packet) → number ≡ first + count
      → drop number ps ≡ p ∷ later
      → take count (drop first ps) ++ p ∷ [] ≡ take (count + 1) (drop first ps)
  one_more first count number p later is here =
      sym (take_one_more count (drop first ps) p later
      (drop-drop count first ps ∙ ap (λ n. drop n ps) (sym is) ∙ here))

  -- Of any block under way before these messages, the runs describe the parts.
  abbrev DescribeFrom : List Message → Type 0
  DescribeFrom messages =
      (missing first count next : ℕ) → (missing ≡ 0 → first ≡ 0) → (first ≡ 0 → missing ≡ 0)
      → next ≡ first + count → AreRising next (map number_of messages)
      → RunsDescribe words mode (runs_on (run_of missing (take count (drop first ps))) next messages)
      (parts_on (block_of missing first count) next (map number_of messages))

  module _ (message : Message) (messages : List Message) (has : HasPacket ps message) (later : DescribeFrom messages)
      (missing first count next : ℕ) (zero_at : missing ≡ 0 → first ≡ 0) (at_zero : first ≡ 0 → missing ≡ 0)
      (place : next ≡ first + count) (least : next ≤ message.number)
      (rising : AreRising (message.number + 1) (map number_of messages)) where
    abbrev number : ℕ
    number = message.number

    abbrev taken : List Packet
    taken = take count (drop first ps)

    -- The message goes on with the block, or begins another.
    with_message : (missed : ℕ) → number - next ≡ missed
        → RunsDescribe words mode (over_before missed (run_of missing taken)
        ++ runs_on (longer (run_of (missing_behind missed missing) (packets_behind missed taken))
        (packet_or_none (reading message.payload))) (number + 1) messages)
        (parts_on (block_of missing first count) next (number ∷ map number_of messages))
    with_message zero is =
        let same : number ≡ next = omega (arith, is, least) in
        let run = ap (λ r. run_of missing (taken ++ packet_or_none r)) has.read
        ∙ ap (run_of missing) (one_more first count number has.packet has.later (omega (arith, same, place)) has.here)
        in
        let parts = ap (λ n. parts_on (block_of missing first count) n (number ∷ map number_of messages)) (sym same)
        ∙ ap (parts_of_blocks ps pieces) (blocks_on (block_of missing first count) number (map number_of messages)) in
        subst (λ r. RunsDescribe words mode (runs_on r (number + 1) messages)
        (parts_on (block_of missing first count) next (number ∷ map number_of messages))) (sym run)
        (subst (λ l. RunsDescribe words mode
        (runs_on (run_of missing (take (count + 1) (drop first ps))) (number + 1) messages) l) (sym parts)
        (later missing first (count + 1) (number + 1) zero_at at_zero (omega (arith, same, place)) rising))
    with_message (suc missed) is =
        let at : number ≡ next + suc missed = omega (arith, is) in
        let block = block_of missing first count in
        let run = ap (λ r. run_of (suc missed) ([] ++ packet_or_none r)) has.read
        ∙ ap (run_of (suc missed)) (one_more number 0 number has.packet has.later (omega arith) has.here) in
        let parts = ap (parts_of_blocks ps pieces) (blocks_behind block next missed number (map number_of messages) at
        ∙ ap (λ l. block ∷ l) (blocks_on (block_of (suc missed) number 0) number (map number_of messages))) in (
          events_of_block words program period mode log legal first count,
          parts_on (block_of (suc missed) number 1) (number + 1) (map number_of messages),
          parts,
          block_trace words program period mode log legal missing first count zero_at at_zero,
          subst (λ r. RunsDescribe words mode (runs_on r (number + 1) messages)
              (parts_on (block_of (suc missed) number 1) (number + 1) (map number_of messages))) (sym run)
              (later (suc missed) number 1 (number + 1) (λ none. cc) (λ none. absurd (omega (arith, at, none)))
              (omega arith) rising),
        )

  pub runs_describe_parts : (messages : List Message) → HavePackets ps messages → DescribeFrom messages
  runs_describe_parts [] have = λ missing first count next zero_at at_zero place rising. (
    events_of_block words program period mode log legal first count,
    [],
    refl,
    block_trace words program period mode log legal missing first count zero_at at_zero,
    refl,
  )
  runs_describe_parts (message ∷ messages) (has, have) = λ missing first count next zero_at at_zero place rising.
      with_message message messages has (runs_describe_parts messages have) missing first count next zero_at at_zero
      place rising.0 rising.1 (message.number - next) refl
