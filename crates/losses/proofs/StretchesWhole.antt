-- The stretches of a log's parts begin where they may and hold all that their packets settle.
use Rattle.std.proofs.Common.{◌≡◌, ◌⊎◌, inl, inr, ℕ, zero, suc, ◌+◌, ◌-◌, ◌≤◌, ◌<◌, List, [], ◌∷◌, ◌++◌, drop, take}
use Rattle.std.proofs.Common.{length, Some, slice_get, refl, sym, ap, subst, ◌∙◌, arith}
use Rattle.std.proofs.lemmas.Bool.{cases_lt}
use Rattle.std.proofs.lemmas.List.{drop-drop, drop-take, length-take, take-append-drop}
use Rattle.std.proofs.lemmas.Option.{slice_get_within}
use Rattle.retire.specs.declared.event.Event.{Event}
use Rattle.rvclass.specs.Words.{Words, IsProgram}
use Rattle.legalpath.specs.Join.{join}
use Rattle.legalpath.specs.Legal.{Legal}
use Rattle.payload.specs.declared.mode.Mode.{Mode}
use Rattle.payload.specs.declared.packet.Packet.{Packet}
use Rattle.encoder.specs.Packets.{packets}
use Rattle.decoder.proofs.OnePacketMore.{join-append}
use Rattle.decoder.specs.Order.{IsOpen}
use Rattle.decoder.specs.Resuming.{IsSync}
use Rattle.decoder.specs.SettledPieces.{settled_pieces}
use Rattle.roundtrip.specs.Reach.{stretches, settled_events}
use Rattle.losses.specs.Apart.{AreRising}
use Rattle.losses.specs.Blocks.{Block, blocks_from}
use Rattle.losses.specs.WholeStretches.{AreWholeStretches, BeginsAt, NumberCame, IsWholeStretch, NoSyncCame}
use Rattle.losses.specs.Parts.{LogPart, Events, Missing, gap, parts, parts_of_blocks, stretch, stretch_of_block}
use Rattle.losses.proofs.BlockDescribed.{Rest, rest_drop, rest_of_log}
use Rattle.losses.proofs.RisingBlocks.{IsBlockOf, AreBlocksOf, blocks_of_rising}
use Rattle.losses.proofs.StretchStarts.{NoSync, Start, Starts, begins_at, drop_from, empty_no_sync, open_is_first}
use Rattle.losses.proofs.StretchStarts.{settled_from, slice_get-drop, slice_get-take, starts}

module _ (words : Words) (program : IsProgram words) (period : ℕ) (mode : Mode) (log : List Event)
    (legal : Legal words log) (numbers : List ℕ) where
  abbrev ps : List Packet
  ps = packets words period mode log

  abbrev pieces : List (List Event)
  pieces = stretches words period log

  rest_at : (place : ℕ) → Rest words mode (drop place ps) (drop place pieces)
  rest_at place = rest_drop words mode place ps pieces (rest_of_log words program period mode log legal)

  -- No synchronisation packet came before a place, nor from there on.
  none_through : (from place below : ℕ) → NoSyncCame ps numbers from place → NoSyncCame ps numbers place below
      → NoSyncCame ps numbers from below
  none_through from place below first second = λ number p least most came at.
      by_place number p least most came at (cases_lt number place)
    where
      by_place : (number : ℕ) (p : Packet) → from ≤ number → number < below → NumberCame number numbers
          → slice_get ps number ≡ Some p → (number < place) ⊎ (place ≤ number) → ¬ IsSync p
      by_place number p least most came at (inl before) = first number p least before came at
      by_place number p least most came at (inr over) = second number p over most came at

  -- Where no synchronisation packet came before a place, the stretches are whole from earlier on.
  widened : (from place : ℕ) (left : List LogPart) → from ≤ place → NoSyncCame ps numbers from place
      → AreWholeStretches words period mode log numbers place left
      → AreWholeStretches words period mode log numbers from left
  widened from place [] below none whole = none_through from place (length ps) none whole
  widened from place (Missing count ∷ left) below none whole = widened from place left below none whole
  widened from place (Events events ∷ left) below none (first, end, above, between, is, later) =
      (first, end, omega (arith, below, above), none_through from place first none between, is, later)

  gap_whole : (missing from : ℕ) (left : List LogPart) → AreWholeStretches words period mode log numbers from left
      → AreWholeStretches words period mode log numbers from (gap missing ++ left)
  gap_whole zero from left whole = whole
  gap_whole (suc missing) from left whole = whole

  module _ (from : ℕ) (block : Block) (b : IsBlockOf numbers from block) (left : List LogPart)
      (later : AreWholeStretches words period mode log numbers (block.first + block.count) left) where
    abbrev own : List Packet
    own = take block.count (drop block.first ps)

    abbrev here : List (List Event)
    here = drop block.first pieces

    abbrev end : ℕ
    end = block.first + block.count

    rest : Rest words mode (own ++ drop block.count (drop block.first ps)) here
    rest = subst (λ l. Rest words mode l here) (sym (take-append-drop block.count (drop block.first ps)))
        (rest_at block.first)

    -- A packet of the block.
    at_own : (i : ℕ) → i < block.count → slice_get own i ≡ slice_get ps (block.first + i)
    at_own i below =
        slice_get-take block.count (drop block.first ps) i below ∙ slice_get-drop block.first ps i

    -- None of the first packets of the block is a synchronisation packet, and so none is up to there.
    none_up_to : (skip : ℕ) → skip ≤ block.count
        → ((i : ℕ) (p : Packet) → i < skip → slice_get own i ≡ Some p → ¬ IsSync p)
        → NoSyncCame ps numbers from (block.first + skip)
    none_up_to skip few none = λ number p least most came at.
        by_place number p least most came at (cases_lt number block.first)
      where
        by_place : (number : ℕ) (p : Packet) → from ≤ number → number < block.first + skip → NumberCame number numbers
            → slice_get ps number ≡ Some p → (number < block.first) ⊎ (block.first ≤ number) → ¬ IsSync p
        by_place number p least most came at (inl before) = absurd (b.skipped number least before came)
        by_place number p least most came at (inr over) =
            let there : block.first + (number - block.first) ≡ number = omega (arith, over) in
            none (number - block.first) p (omega (arith, most, over))
            (at_own (number - block.first) (omega (arith, most, over, few)) ∙ ap (slice_get ps) there ∙ at)

    without : NoSync own → AreWholeStretches words period mode log numbers from left
    without none =
        let above = b.above in
        widened from end left (omega (arith, above))
        (none_up_to block.count (omega arith) (λ i p below at. none i p at)) later

    -- The block begins a stretch.
    module _ (s : Start own here) where
      abbrev place : ℕ
      place = block.first + s.skip

      within : s.skip < block.count
      within =
          let inside = slice_get_within own s.skip s.packet s.here in
          omega (arith, inside, length-take block.count (drop block.first ps))

      at_place : slice_get ps place ≡ Some s.packet
      at_place = sym (at_own s.skip within) ∙ s.here

      -- The packets of the block from there on, and their pieces.
      same_packets : drop place (take end ps) ≡ drop s.skip own
      same_packets =
          let all : end ≡ place + (block.count - s.skip) = omega (arith, within) in
          let few : block.count ≡ s.skip + (block.count - s.skip) = omega (arith, within) in
          ap (λ n. drop place (take n ps)) all ∙ drop-take place (block.count - s.skip) ps
          ∙ ap (take (block.count - s.skip)) (sym (drop-drop s.skip block.first ps))
          ∙ sym (drop-take s.skip (block.count - s.skip) (drop block.first ps))
          ∙ ap (λ n. drop s.skip (take n (drop block.first ps))) (sym few)

      settled : stretch_of_block ps pieces block ≡ join (settled_pieces (drop s.skip own) (drop place pieces))
      settled =
          s.is ∙ ap (λ l. join (settled_pieces (drop s.skip own) l)) (drop-drop s.skip block.first pieces)

      begins : BeginsAt s.packet (join (take place pieces)) (stretch_of_block ps pieces block)
      begins =
          let r = subst (λ l. Rest words mode l (drop place pieces)) (drop_from ps place s.packet at_place)
          (rest_at place) in
          let first = begins_at words mode s.packet (drop (suc s.skip) own) (drop (suc place) ps) (drop place pieces)
          (join (take place pieces)) r s.begins none_before in
          subst (BeginsAt s.packet (join (take place pieces)))
          (ap (λ l. join (settled_pieces l (drop place pieces))) (sym (drop_from own s.skip s.packet s.here))
          ∙ sym settled) first
        where
          none_before : IsOpen s.packet → join (take place pieces) ≡ []
          none_before opens =
              let r = rest_of_log words program period mode log legal in
              let first = open_is_first words mode r.before r.reported ps pieces r.each place s.packet at_place opens in
              ap (λ n. join (take n pieces)) first

      holds : settled_events words period mode log end ≡ join (take place pieces) ++ stretch_of_block ps pieces block
      holds =
          let inside : place < end = omega (arith, within) in
          let at = slice_get-take end ps place inside ∙ at_place in
          ap join (settled_from place (take end ps) pieces s.packet at)
          ∙ join-append (take place pieces) (settled_pieces (drop place (take end ps)) (drop place pieces))
          ∙ ap (λ l. join (take place pieces) ++ join (settled_pieces l (drop place pieces))) same_packets
          ∙ ap (λ l. join (take place pieces) ++ l) (sym settled)

      whole : IsWholeStretch words period mode log numbers place end (stretch_of_block ps pieces block)
      whole = record {
        some = omega (arith, within);
        came = λ number least most. b.came number (omega (arith, least)) most;
        lost = b.lost;
        packet = s.packet;
        here = at_place;
        begins = begins;
        holds = holds;
      }

      none_there : stretch_of_block ps pieces block ≡ [] → NoSync own
      none_there empty = by_place
        where
          rest_there : Rest words mode (drop s.skip own ++ drop end ps) (drop place pieces)
          rest_there =
              let r = subst (λ l. Rest words mode l (drop place pieces))
              (sym (take-append-drop (block.count - s.skip) (drop place ps))) (rest_at place) in
              let packets_there = sym (drop-take place (block.count - s.skip) ps)
              ∙ ap (λ n. drop place (take n ps)) (let all : place + (block.count - s.skip) ≡ end = omega (
                arith,
                within,
              ) in all)
              ∙ same_packets in
              let behind = drop-drop (block.count - s.skip) place ps
              ∙ ap (λ n. drop n ps) (let all : place + (block.count - s.skip) ≡ end = omega (arith, within) in all) in
              subst (λ l. Rest words mode (drop s.skip own ++ l) (drop place pieces)) behind
              (subst (λ l. Rest words mode (l ++ drop (block.count - s.skip) (drop place ps)) (drop place pieces))
              packets_there r)

          none_behind : NoSync (drop s.skip own)
          none_behind = empty_no_sync words mode (drop s.skip own) (drop end ps) (drop place pieces) rest_there
              (sym settled ∙ empty)

          by_place : NoSync own
          by_place i p at sync = by_order (cases_lt i s.skip)
            where
              by_order : (i < s.skip) ⊎ (s.skip ≤ i) → ⊥
              by_order (inl before) = s.skipped i p before at sync
              by_order (inr over) =
                  let there : s.skip + (i - s.skip) ≡ i = omega (arith, over) in
                  none_behind (i - s.skip) p
                  (slice_get-drop s.skip own (i - s.skip) ∙ ap (slice_get own) there ∙ at) sync

      with_start : AreWholeStretches words period mode log numbers from
          (stretch (stretch_of_block ps pieces block) ++ left)
      with_start = by_events (stretch_of_block ps pieces block) whole none_there
        where
          by_events : (events : List Event) → IsWholeStretch words period mode log numbers place end events
              → (events ≡ [] → NoSync own) → AreWholeStretches words period mode log numbers from
              (stretch events ++ left)
          by_events [] is none = without (none refl)
          by_events (event ∷ events) is none =
              let above = b.above in (
                place,
                end,
                omega (arith, above),
                none_up_to s.skip (omega (arith, within)) s.skipped,
                is,
                later,
              )

    block_whole : AreWholeStretches words period mode log numbers from
        (gap block.missing ++ (stretch (stretch_of_block ps pieces block) ++ left))
    block_whole =
        gap_whole block.missing from _
        (by_start (starts words mode own (drop block.count (drop block.first ps)) here rest))
      where
        by_start : Starts own here
            → AreWholeStretches words period mode log numbers from (stretch (stretch_of_block ps pieces block) ++ left)
        by_start (inl (empty, none)) =
            subst (λ e. AreWholeStretches words period mode log numbers from (stretch e ++ left)) (sym empty)
            (without none)
        by_start (inr s) = with_start s

  blocks_whole : (from : ℕ) (blocks : List Block) → AreBlocksOf numbers from blocks
      → AreWholeStretches words period mode log numbers from (parts_of_blocks ps pieces blocks)
  blocks_whole from [] none = λ number p least most came at. absurd (none number least came)
  blocks_whole from (block ∷ blocks) (b, later) =
      block_whole from block b (parts_of_blocks ps pieces blocks)
      (blocks_whole (block.first + block.count) blocks later)

  pub parts_whole : AreRising 0 numbers → AreWholeStretches words period mode log numbers 0
      (parts words period mode log numbers)
  parts_whole rising = blocks_whole 0 (blocks_from 0 numbers) (blocks_of_rising 0 numbers rising)
