-- Blocks: a hart's numbers that came one after the other, with none missing between them.
use Rattle.std.specs.Prelude.{ℕ, zero, suc, ◌+◌, ◌-◌, List, [], ◌∷◌}

-- A block: how many numbers are missing before it, the first of its numbers, and how many numbers it has.
pub record Block : Type 0 where
  pub missing : ℕ
  pub first : ℕ
  pub count : ℕ

-- A block, the next one, and those after it. The first argument is how many numbers are missing between the first two;
-- where none is, they are one block.
abbrev pub joined_or_apart : ℕ → Block → Block → List Block → List Block
joined_or_apart zero block next blocks =
    record { missing = block.missing; first = block.first; count = block.count + next.count } ∷ blocks
joined_or_apart (suc missing) block next blocks = block ∷ next ∷ blocks

-- A block before these. It and the first of them are one block where no number is missing between them.
abbrev pub block_before : Block → List Block → List Block
block_before block [] = block ∷ []
block_before block (next ∷ blocks) = joined_or_apart next.missing block next blocks

-- The blocks of rising numbers, where this number is expected first.
abbrev pub blocks_from : ℕ → List ℕ → List Block
blocks_from expected [] = []
blocks_from expected (number ∷ numbers) =
    block_before (record { missing = number - expected; first = number; count = 1 }) (blocks_from (number + 1) numbers)

-- The blocks of rising numbers, where 0 is expected first.
abbrev pub blocks : List ℕ → List Block
blocks numbers = blocks_from 0 numbers
