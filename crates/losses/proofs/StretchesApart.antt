-- The stretches of a log's parts stand apart in it.
use Rattle.std.proofs.Common.{◌≡◌, ℕ, zero, suc, ◌+◌, ◌-◌, ◌≤◌, Bool, true, false, List, [], ◌∷◌, ◌++◌, drop, take}
use Rattle.std.proofs.Common.{length, refl, sym}
use Rattle.std.proofs.Common.{ap, subst, ◌∙◌, arith, append_assoc}
use Rattle.std.proofs.lemmas.List.{drop-drop, length-take}
use Rattle.retire.specs.declared.event.Event.{Event}
use Rattle.rvclass.specs.Words.{Words, IsProgram}
use Rattle.legalpath.specs.Join.{join}
use Rattle.legalpath.specs.Legal.{Legal}
use Rattle.payload.specs.declared.mode.Mode.{Mode}
use Rattle.payload.specs.declared.packet.Packet.{Packet}
use Rattle.encoder.specs.Packets.{packets}
use Rattle.decoder.specs.SettledPieces.{piece_unless, settled_pieces}
use Rattle.decoder.specs.Settling.{waits}
use Rattle.roundtrip.proofs.FirstPackets.{join-stretches}
use Rattle.roundtrip.specs.Reach.{stretches}
use Rattle.losses.specs.Apart.{AreRising, StandApart}
use Rattle.losses.specs.Blocks.{Block, block_before, blocks_from, joined_or_apart}
use Rattle.losses.specs.Parts.{LogPart, Events, Missing, begins_stretch, gap, here_or_later, parts, parts_of_blocks}
use Rattle.losses.specs.Parts.{stretch}
use Rattle.losses.specs.Parts.{stretch_of}
use Rattle.losses.proofs.BlockLemmas.{block_of}

-- Each block begins at this number or above, and behind the one before it.
abbrev InOrder : ℕ → List Block → Type 0
InOrder from [] = Unit {0}
InOrder from (block ∷ blocks) = (from ≤ block.first) × InOrder (block.first + block.count) blocks

sooner : (from other : ℕ) (blocks : List Block) → other ≤ from → InOrder from blocks → InOrder other blocks
sooner from other [] below order = tt
sooner from other (block ∷ blocks) below order = let first = order.0 in (omega (arith, below, first), order.1)

order_before : (from : ℕ) (block : Block) (blocks : List Block) → from ≤ block.first
    → InOrder (block.first + block.count) blocks → InOrder from (block_before block blocks)
order_before from block [] above order = (above, tt)
order_before from block (next ∷ blocks) above order = by_missing next.missing
  where
    by_missing : (missing : ℕ) → InOrder from (joined_or_apart missing block next blocks)
    by_missing zero =
        let first = order.0 in (
          above,
          sooner (next.first + next.count) (block.first + (block.count + next.count)) blocks
              (omega (arith, first)) order.1,
        )
    by_missing (suc missing) = (above, order)

order_of : (from : ℕ) (numbers : List ℕ) → AreRising from numbers → InOrder from (blocks_from from numbers)
order_of from [] rising = tt
order_of from (number ∷ numbers) rising =
    order_before from (block_of (number - from) number 1) (blocks_from (number + 1) numbers) rising.0
    (order_of (number + 1) numbers rising.1)

-- Events before a log leave its stretches apart.
behind : (front : List Event) (ps : List LogPart) (log : List Event) → StandApart ps log → StandApart ps (front ++ log)
behind front [] log apart = tt
behind front (Missing count ∷ ps) log apart = behind front ps log apart
behind front (Events events ∷ ps) log (before, after, is, rest) = (
  front ++ before,
  after,
  ap (λ l. front ++ l) is ∙ sym (append_assoc front before (events ++ after)),
  rest,
)

-- What is behind the settled pieces.
pub record Behind (pieces : List (List Event)) (front settled : List Event) (count : ℕ) : Type 0 where
  pub rest : List Event
  pub is : join pieces ≡ front ++ (settled ++ (rest ++ join (drop count pieces)))

settled_behind : (ps : List Packet) (pieces : List (List Event))
    → Behind pieces [] (join (settled_pieces ps pieces)) (length ps)
settled_behind [] pieces = record { rest = []; is = refl }
settled_behind (p ∷ ps) [] = record { rest = []; is = refl }
settled_behind (p ∷ []) (piece ∷ pieces) = by_waiting (waits p)
  where
    by_waiting : (waiting : Bool) → Behind (piece ∷ pieces) [] (join (piece_unless waiting piece ∷ [])) 1
    by_waiting true = record { rest = piece; is = refl }
    by_waiting false = record { rest = []; is = sym (append_assoc piece [] (join pieces)) }
settled_behind (p ∷ q ∷ ps) (piece ∷ pieces) =
    let b = settled_behind (q ∷ ps) pieces in
    record {
      rest = b.rest;
      is = ap (λ l. piece ++ l) b.is ∙ sym (append_assoc piece (join (settled_pieces (q ∷ ps) pieces)) _);
    }

stretch_behind : (ps : List Packet) (pieces : List (List Event))
    → (front : List Event) × Behind pieces front (stretch_of ps pieces) (length ps)
stretch_behind [] pieces = ([], record { rest = []; is = refl })
stretch_behind (p ∷ ps) [] = ([], record { rest = []; is = refl })
stretch_behind (p ∷ ps) (piece ∷ pieces) =
    by_kind (begins_stretch p) (settled_behind (p ∷ ps) (piece ∷ pieces)) (stretch_behind ps pieces)
  where
    by_kind : (begins : Bool) → Behind (piece ∷ pieces) [] (join (settled_pieces (p ∷ ps) (piece ∷ pieces)))
        (suc (length ps))
        → (front : List Event) × Behind pieces front (stretch_of ps pieces) (length ps)
        → (front : List Event) × Behind (piece ∷ pieces) front
        (here_or_later begins (join (settled_pieces (p ∷ ps) (piece ∷ pieces))) (stretch_of ps pieces)) (suc (length
        ps))
    by_kind true here later = ([], here)
    by_kind false here (front, later) = (
      piece ++ front,
      record {
        rest = later.rest;
        is = ap (λ l. piece ++ l) later.is ∙ sym (append_assoc piece front _);
      },
    )

-- A log is the events of its first pieces and those of the others.
join_drop : (count : ℕ) (pieces : List (List Event)) → (front : List Event) × (join pieces ≡ front ++ join (drop count
    pieces))
join_drop zero pieces = ([], refl)
join_drop (suc count) [] = ([], refl)
join_drop (suc count) (piece ∷ pieces) =
    let b = join_drop count pieces in
    (piece ++ b.0, ap (λ l. piece ++ l) b.1 ∙ sym (append_assoc piece b.0 (join (drop count pieces))))

-- What is left from a place on, from an earlier place on.
from_earlier : (place later : ℕ) (pieces : List (List Event)) → place ≤ later
    → (front : List Event) × (join (drop place pieces) ≡ front ++ join (drop later pieces))
from_earlier place later pieces below =
    let b = join_drop (later - place) (drop place pieces) in
    let there : place + (later - place) ≡ later = omega (arith, below) in
    (b.0, b.1 ∙ ap (λ l. b.0 ++ join l) (drop-drop (later - place) place pieces ∙ ap (λ n. drop n pieces) there))

gap_apart : (missing : ℕ) (ps : List LogPart) (log : List Event) → StandApart ps log → StandApart (gap missing ++ ps)
    log
gap_apart zero ps log apart = apart
gap_apart (suc missing) ps log apart = apart

stretch_apart : (events : List Event) (ps : List LogPart) (front rest log after : List Event)
    → log ≡ front ++ (events ++ (rest ++ after)) → StandApart ps after → StandApart (stretch events ++ ps) log
stretch_apart [] ps front rest log after is apart =
    subst (StandApart ps) (sym is) (behind front ps (rest ++ after) (behind rest ps after apart))
stretch_apart (event ∷ events) ps front rest log after is apart =
    (front, rest ++ after, is, behind rest ps after apart)

module _ (ps : List Packet) (pieces : List (List Event)) where
  blocks_apart : (from : ℕ) (blocks : List Block) → InOrder from blocks
      → StandApart (parts_of_blocks ps pieces blocks) (join (drop from pieces))
  blocks_apart from [] order = tt
  blocks_apart from (block ∷ blocks) order =
      let own = take block.count (drop block.first ps) in
      let here = drop block.first pieces in
      let b = stretch_behind own here in
      let skipped = from_earlier from block.first pieces order.0 in
      let few : length own ≤ block.count =
      omega (arith, length-take block.count (drop block.first ps)) in
      let behind_own = from_earlier (block.first + length own) (block.first + block.count) pieces (omega (arith, few))
      in
      let later = blocks_apart (block.first + block.count) blocks order.1 in
      let rest = subst (StandApart (parts_of_blocks ps pieces blocks)) (sym behind_own.1)
      (behind behind_own.0 (parts_of_blocks ps pieces blocks) _ later) in
      let dropped = drop-drop (length own) block.first pieces in
      let apart = subst (λ l. StandApart (parts_of_blocks ps pieces blocks) (join l)) (sym dropped) rest in
      subst (StandApart (parts_of_blocks ps pieces (block ∷ blocks))) (sym skipped.1)
      (behind skipped.0 (parts_of_blocks ps pieces (block ∷ blocks)) (join here)
      (gap_apart block.missing _ (join here)
      (stretch_apart (stretch_of own here) (parts_of_blocks ps pieces blocks) b.0 b.1.rest (join here) _ b.1.is apart)))

pub parts_stand_apart : (words : Words) → IsProgram words → (period : ℕ) (mode : Mode) (log : List Event)
    → Legal words log → (numbers : List ℕ) → AreRising 0 numbers
    → StandApart (parts words period mode log numbers) log
parts_stand_apart words program period mode log legal numbers rising =
    subst (StandApart (parts words period mode log numbers)) (join-stretches words program period mode log legal)
    (blocks_apart (packets words period mode log) (stretches words period log) 0 (blocks_from 0 numbers)
    (order_of 0 numbers rising))
