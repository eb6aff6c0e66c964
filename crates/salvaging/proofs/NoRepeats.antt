-- Numbers without a repeat are as many as others with the same numbers.
use Rattle.std.proofs.Common.{inl, inr, ℕ, ◌+◌, ◌≤◌, List, [], ◌∷◌, length, refl, subst, arith}
use Rattle.losses.specs.Apart.{AreRising}
use Rattle.losses.specs.WholeStretches.{NumberCame}
use Rattle.losses.proofs.RisingBlocks.{not_below}
use Rattle.salvaging.proofs.Members.{came_of_in, in_of_came, one_less, others_stay, without_one}
use Rattle.salvaging.proofs.RisingNumbers.{AreAmong}

-- No number is among those behind it.
abbrev pub NoRepeat : List ℕ → Type 0
NoRepeat [] = Unit {0}
NoRepeat (number ∷ numbers) = (¬ NumberCame number numbers) × NoRepeat numbers

-- Rising numbers have no repeat.
pub rising_no_repeat : (from : ℕ) (numbers : List ℕ) → AreRising from numbers → NoRepeat numbers
rising_no_repeat from [] rising = tt
rising_no_repeat from (number ∷ numbers) rising = (
  λ came. let above = not_below (number + 1) numbers number rising.1 came in omega (arith, above),
  rising_no_repeat (number + 1) numbers rising.1,
)

-- Numbers without a repeat are no more than those among which they are.
pub no_more : (numbers others : List ℕ) → NoRepeat numbers → AreAmong numbers others → length numbers ≤ length others
no_more [] others none among = omega arith
no_more (number ∷ numbers) others (once, none) among =
    let there = in_of_came number others (among number (inl refl)) in
    let left = without_one number others there in
    let fewer = no_more numbers left none (λ other came.
    came_of_in other left (others_stay number others there other (in_of_came other others (among other (inr came)))
    (λ is. once (subst (λ n. NumberCame n numbers) is came)))) in
    let less = one_less number others there in
    omega (arith, fewer, less)
