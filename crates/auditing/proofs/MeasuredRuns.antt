-- How many runs there are, and how long the longest is, run by run.
use Rattle.std.proofs.Common.{◌≡◌, ℕ, ◌+◌, ◌-◌, ◌^◌, ◌<◌, ◌≤◌, Bool, true, false, cond, eqb, List, [], ◌∷◌, length}
use Rattle.std.proofs.Common.{subst, arith, zero-add}
use Rattle.std.specs.Prelude.{⊤, max, min}
use Rattle.auditing.specs.HartRows.{longest_of}
use Rattle.auditing.specs.Losing.{run_before, runs_of}
use Rattle.auditing.specs.declared.lost.Lost.{Lost}
use Rattle.auditing.specs.Unset.{lost_in}

-- No run goes on to a bound.
abbrev AreBelow : ℕ → List Lost → Type 0
AreBelow bound [] = ⊤
AreBelow bound (run ∷ runs) = (run.last < bound) × AreBelow bound runs

-- Some of the runs are measured, these are left.
pub record HasMeasured (all left : List Lost) (bound runs longest : ℕ) : Type 0 where
  counted : runs + length left ≡ length all
  longest_is : max longest (longest_of left) ≡ longest_of all
  below : AreBelow bound left
  few : length all ≤ bound

-- A number before runs.
below_before : (bound number : ℕ) (runs : List Lost) → number < bound → AreBelow bound runs
    → AreBelow bound (run_before number runs)
below_before bound number [] low below = (low, tt)
below_before bound number (run ∷ runs) low below = go (eqb run.first (number + 1))
  where
    go : (next : Bool) → AreBelow bound (cond next (record { first = number; last = run.last } ∷ runs)
        (record { first = number; last = number } ∷ run ∷ runs))
    go true = (below.0, below.1)
    go false = (low, below)

few_before : (number : ℕ) (runs : List Lost) → length (run_before number runs) ≤ length runs + 1
few_before number [] = omega arith
few_before number (run ∷ runs) = go (eqb run.first (number + 1))
  where
    go : (next : Bool) → length (cond next (record { first = number; last = run.last } ∷ runs)
        (record { first = number; last = number } ∷ run ∷ runs)) ≤ length (run ∷ runs) + 1
    go true = omega arith
    go false = omega arith

-- The runs of flags that are not set.
runs_below : (number : ℕ) (flags : List Bool) (bound : ℕ) → number + length flags ≤ bound
    → AreBelow bound (runs_of (lost_in number flags))
runs_below number [] bound within = tt
runs_below number (true ∷ flags) bound within = runs_below (number + 1) flags bound (omega (arith, within))
runs_below number (false ∷ flags) bound within =
    below_before bound number (runs_of (lost_in (number + 1) flags)) (omega (arith, within))
    (runs_below (number + 1) flags bound (omega (arith, within)))

runs_few : (number : ℕ) (flags : List Bool) → length (runs_of (lost_in number flags)) ≤ length flags
runs_few number [] = omega arith
runs_few number (true ∷ flags) = let rest = runs_few (number + 1) flags in omega (arith, rest)
runs_few number (false ∷ flags) =
    let rest = runs_few (number + 1) flags in
    let one = few_before number (runs_of (lost_in (number + 1) flags)) in
    omega (arith, rest, one)

-- At first none is measured.
pub measured_none : (flags : List Bool)
    → HasMeasured (runs_of (lost_in 0 flags)) (runs_of (lost_in 0 flags)) (length flags) 0 0
measured_none flags = record {
  counted = zero-add (length (runs_of (lost_in 0 flags)));
  longest_is = from_none (longest_of (runs_of (lost_in 0 flags)));
  below = runs_below 0 flags (length flags) (omega arith);
  few = runs_few 0 flags;
}
  where
    from_none : (n : ℕ) → max 0 n ≡ n
    from_none n = omega arith

-- One more is measured.
pub measured_more : (all left rest : List Lost) (run : Lost) (bound runs longest more longer : ℕ) → bound < 2 ^ 64
    → HasMeasured all left bound runs longest → left ≡ run ∷ rest → more ≡ min (runs + 1) (2 ^ 64 - 1)
    → longer ≡ max longest (min (run.last - run.first + 1) (2 ^ 64 - 1)) → HasMeasured all rest bound more longer
measured_more all left rest run bound runs longest more longer short has left_is more_is longer_is =
    let at = subst (λ l. HasMeasured all l bound runs longest) left_is has in
    let counted = at.counted in
    let few = at.few in
    let low = at.below.0 in record {
      counted = omega (arith, counted, few, short, more_is);
      longest_is =
          go (longest_of rest) (longest_of all) (run.last) (run.first) low longer_is at.longest_is;
      below = at.below.1;
      few = few;
    }
  where
    go : (others all last first : ℕ) → last < bound → longer ≡ max longest (min (last - first + 1) (2 ^ 64 - 1))
        → max longest (max (last - first + 1) others) ≡ all → max longer others ≡ all
    go others all last first low longer_is is = omega (arith, low, short, longer_is, is)

-- All are.
pub measured_all : (all : List Lost) (bound runs longest : ℕ) → HasMeasured all [] bound runs longest
    → (runs ≡ length all) × (longest ≡ longest_of all)
measured_all all bound runs longest has =
    let counted = has.counted in
    let is = has.longest_is in
    (omega (arith, counted), at longest (longest_of all) is)
  where
    at : (n m : ℕ) → max n 0 ≡ m → n ≡ m
    at n m is = omega (arith, is)
