-- Blocks of numbers, one number after the other.
use Rattle.std.proofs.Common.{◌≡◌, ℕ, zero, suc, ◌+◌, ◌-◌, List, [], ◌∷◌, refl, sym, ap, ◌∙◌, arith}
use Rattle.retire.specs.declared.event.Event.{Event}
use Rattle.payload.specs.declared.packet.Packet.{Packet}
use Rattle.losses.specs.Blocks.{Block, block_before, blocks_from, joined_or_apart}
use Rattle.losses.specs.Parts.{gap, parts_of_blocks}

abbrev pub block_of : ℕ → ℕ → ℕ → Block
block_of missing first count = record { missing = missing; first = first; count = count }

-- A number right behind a block makes it one longer.
pub one_longer : (missing first count number : ℕ) (blocks : List Block)
    → block_before (block_of missing first count) (block_before (block_of 0 number 1) blocks)
    ≡ block_before (block_of missing first (count + 1)) blocks
one_longer missing first count number [] = refl
one_longer missing first count number (next ∷ blocks) = by_missing next.missing
  where
    by_missing : (gap : ℕ)
        → block_before (block_of missing first count) (joined_or_apart gap (block_of 0 number 1) next blocks)
        ≡ joined_or_apart gap (block_of missing first (count + 1)) next blocks
    by_missing zero =
        let longer : count + (1 + next.count) ≡ count + 1 + next.count = omega arith in
        ap (λ n. block_of missing first n ∷ blocks) longer
    by_missing (suc gap) = refl

-- A number behind a gap begins another.
pub set_apart : (block : Block) (missing number count : ℕ) (blocks : List Block)
    → block_before block (block_before (block_of (suc missing) number count) blocks)
    ≡ block ∷ block_before (block_of (suc missing) number count) blocks
set_apart block missing number count [] = refl
set_apart block missing number count (next ∷ blocks) = by_missing next.missing
  where
    by_missing : (gap : ℕ)
        → block_before block (joined_or_apart gap (block_of (suc missing) number count) next blocks)
        ≡ block ∷ joined_or_apart gap (block_of (suc missing) number count) next blocks
    by_missing zero = refl
    by_missing (suc gap) = refl

-- The number that is expected goes to the block.
pub blocks_on : (block : Block) (number : ℕ) (numbers : List ℕ)
    → block_before block (blocks_from number (number ∷ numbers))
    ≡ block_before (block_of block.missing block.first (block.count + 1)) (blocks_from (number + 1) numbers)
blocks_on block number numbers =
    let none : number - number ≡ 0 = omega arith in
    ap (λ n. block_before block (block_before (block_of n number 1) (blocks_from (number + 1) numbers))) none
    ∙ one_longer block.missing block.first block.count number (blocks_from (number + 1) numbers)

-- A later one begins a block, in which it is expected then.
pub blocks_behind : (block : Block) (next missing number : ℕ) (numbers : List ℕ) → number ≡ next + suc missing
    → block_before block (blocks_from next (number ∷ numbers))
    ≡ block ∷ block_before (block_of (suc missing) number 0) (blocks_from number (number ∷ numbers))
blocks_behind block next missing number numbers is =
    let some : number - next ≡ suc missing = omega (arith, is) in
    let rest = blocks_from (number + 1) numbers in
    ap (λ n. block_before block (block_before (block_of n number 1) rest)) some
    ∙ set_apart block missing number 1 rest
    ∙ ap (λ l. block ∷ l) (sym (blocks_on (block_of (suc missing) number 0) number numbers))

module _ (ps : List Packet) (pieces : List (List Event)) where
  -- Before the first number there is an empty block.
  pub blocks_at_first : (numbers : List ℕ)
      → parts_of_blocks ps pieces (block_before (block_of 0 0 0) (blocks_from 0 numbers))
      ≡ parts_of_blocks ps pieces (blocks_from 0 numbers)
  blocks_at_first [] = refl
  blocks_at_first (zero ∷ numbers) = ap (parts_of_blocks ps pieces) (blocks_on (block_of 0 0 0) 0 numbers)
  blocks_at_first (suc number ∷ numbers) =
      let missing : suc number - 0 ≡ suc number = omega arith in
      let rest = blocks_from (suc number + 1) numbers in
      ap (λ n. parts_of_blocks ps pieces (block_before (block_of 0 0 0) (block_before (block_of n (suc number) 1)
      rest)))
      missing
      ∙ ap (parts_of_blocks ps pieces) (set_apart (block_of 0 0 0) number (suc number) 1 rest)
      ∙ ap (λ n. parts_of_blocks ps pieces (block_before (block_of n (suc number) 1) rest)) (sym missing)
