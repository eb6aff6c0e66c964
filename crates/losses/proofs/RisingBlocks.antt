-- The blocks of rising numbers.
use Rattle.std.proofs.Common.{◌≡◌, ◌⊎◌, inl, inr, ℕ, zero, suc, ◌+◌, ◌-◌, ◌≤◌, ◌<◌, List, [], ◌∷◌, refl, subst, arith}
use Rattle.std.proofs.lemmas.Bool.{cases_lt}
use Rattle.losses.specs.Apart.{AreRising}
use Rattle.losses.specs.Blocks.{Block, block_before, blocks_from, joined_or_apart}
use Rattle.losses.specs.WholeStretches.{NumberCame}
use Rattle.losses.proofs.BlockLemmas.{block_of}

-- A block of numbers of which none before it, from this one on, came: so many are missing. All of its own came, and the
-- one behind it is lost.
pub record IsBlockOf (numbers : List ℕ) (from : ℕ) (block : Block) : Type 0 where
  pub above : from ≤ block.first
  pub missing : block.missing ≡ block.first - from
  pub some : 0 < block.count
  pub skipped : (number : ℕ) → from ≤ number → number < block.first → ¬ NumberCame number numbers
  pub came : (number : ℕ) → block.first ≤ number → number < block.first + block.count → NumberCame number numbers
  pub lost : ¬ NumberCame (block.first + block.count) numbers

abbrev pub AreBlocksOf : List ℕ → ℕ → List Block → Type 0
AreBlocksOf numbers from [] = (number : ℕ) → from ≤ number → ¬ NumberCame number numbers
AreBlocksOf numbers from (block ∷ blocks) =
    IsBlockOf numbers from block × AreBlocksOf numbers (block.first + block.count) blocks

-- A number before those of the blocks changes nothing.
not_with : (before number : ℕ) (numbers : List ℕ) → before < number → ¬ NumberCame number numbers
    → ¬ NumberCame number (before ∷ numbers)
not_with before number numbers below none (inl is) = absurd (omega (arith, below, is))
not_with before number numbers below none (inr came) = none came

blocks_with : (before from : ℕ) (numbers : List ℕ) (blocks : List Block) → before < from
    → AreBlocksOf numbers from blocks → AreBlocksOf (before ∷ numbers) from blocks
blocks_with before from numbers [] below none = λ number above.
    not_with before number numbers (omega (arith, below, above)) (none number above)
blocks_with before from numbers (block ∷ blocks) below (b, later) =
    let above = b.above in (
      record {
        above = b.above;
        missing = b.missing;
        some = b.some;
        skipped = λ number least most.
            not_with before number numbers (omega (arith, below, least)) (b.skipped number least most);
        came = λ number least most. inr (b.came number least most);
        lost = not_with before (block.first + block.count) numbers (omega (arith, below, above)) b.lost;
      },
      blocks_with before (block.first + block.count) numbers blocks (omega (arith, below, above)) later,
    )

-- A block joins the next one where none is missing between them.
blocks_joined : (numbers : List ℕ) (from : ℕ) (block : Block) (blocks : List Block) → from ≤ block.first
    → block.missing ≡ block.first - from → 0 < block.count
    → ((number : ℕ) → from ≤ number → number < block.first → ¬ NumberCame number numbers)
    → ((number : ℕ) → block.first ≤ number → number < block.first + block.count → NumberCame number numbers)
    → AreBlocksOf numbers (block.first + block.count) blocks
    → AreBlocksOf numbers from (block_before block blocks)
blocks_joined numbers from block [] above missing some skipped came none = (
  record {
    above = above;
    missing = missing;
    some = some;
    skipped = skipped;
    came = came;
    lost = none (block.first + block.count) (omega arith);
  },
  none,
)
blocks_joined numbers from block (next ∷ blocks) above missing some skipped came (n, later) =
    by_missing next.missing refl
  where
    by_missing : (count : ℕ) → next.missing ≡ count
        → AreBlocksOf numbers from (joined_or_apart count block next blocks)
    by_missing zero is =
        let behind = n.above in
        let between = n.missing in
        let end : next.first + next.count ≡ block.first + (block.count + next.count) =
        omega (arith, is, behind, between) in (
          record {
            above = above;
            missing = missing;
            some = omega (arith, some);
            skipped = skipped;
            came = both;
            lost = subst (λ (e : ℕ). ¬ NumberCame e numbers) end n.lost;
          },
          subst (λ e. AreBlocksOf numbers e blocks) end later,
        )
      where
        both : (number : ℕ) → block.first ≤ number → number < block.first + (block.count + next.count)
            → NumberCame number numbers
        both number least most = by_place (cases_lt number (block.first + block.count))
          where
            by_place : (number < block.first + block.count) ⊎ (block.first + block.count ≤ number)
                → NumberCame number numbers
            by_place (inl below) = came number least below
            by_place (inr over) =
                let behind = n.above in
                let between = n.missing in
                n.came number (omega (arith, is, behind, between, over))
                (omega (arith, is, behind, between, most))
    by_missing (suc count) is =
        let between = n.missing in (
          record {
            above = above;
            missing = missing;
            some = some;
            skipped = skipped;
            came = came;
            lost = n.skipped (block.first + block.count) (omega arith) (omega (arith, is, between));
          },
          (n, later),
        )

-- Rising numbers are not below the one from which they rise.
pub not_below : (from : ℕ) (numbers : List ℕ) (number : ℕ) → AreRising from numbers → NumberCame number numbers
    → from ≤ number
not_below from [] number rising came = absurd came
not_below from (first ∷ numbers) number rising (inl is) = let least = rising.0 in omega (arith, is, least)
not_below from (first ∷ numbers) number rising (inr came) =
    let least = rising.0 in
    let later = not_below (first + 1) numbers number rising.1 came in
    omega (arith, least, later)

-- The blocks of rising numbers.
pub blocks_of_rising : (from : ℕ) (numbers : List ℕ) → AreRising from numbers
    → AreBlocksOf numbers from (blocks_from from numbers)
blocks_of_rising from [] rising = λ number above came. came
blocks_of_rising from (first ∷ numbers) rising =
    blocks_joined (first ∷ numbers) from (block_of (first - from) first 1) (blocks_from (first + 1) numbers) rising.0
    refl (omega arith) none_before only_first
    (blocks_with first (first + 1) numbers (blocks_from (first + 1) numbers) (omega arith)
    (blocks_of_rising (first + 1) numbers rising.1))
  where
    none_before : (number : ℕ) → from ≤ number → number < first → ¬ NumberCame number (first ∷ numbers)
    none_before number least most (inl is) = absurd (omega (arith, most, is))
    none_before number least most (inr came) =
        let later = not_below (first + 1) numbers number rising.1 came in
        absurd (omega (arith, most, later))

    only_first : (number : ℕ) → first ≤ number → number < first + 1 → NumberCame number (first ∷ numbers)
    only_first number least most = inl (omega (arith, least, most))
