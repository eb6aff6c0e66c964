-- Parts in the order of their ranks, and where a search among them ends.
use Rattle.std.proofs.Common.{◌≡◌, ℕ, zero, suc, ◌<◌, ◌≤◌, Bool, true, false, List, [], ◌∷◌}
use Rattle.std.proofs.Common.{length, slice_index_or, nat_le, arith}
use Rattle.std.proofs.lemmas.Bool.Decides.{nat_tests}
use Rattle.std.specs.List.{AllByRecursion}
use Rattle.std.specs.List.Sorted.{IsPartitionPoint, IsPartitionedBy}
use Rattle.rvclass.specs.declared.part.Part.{Part}
use Rattle.rvclass.specs.steps.Parts.{AreKept}
use Rattle.rvclass.specs.steps.Search.{IsCountUpTo}

-- What holds of each part holds at each place.
pub all_at : (P : Part → Type 0) (parts : List Part) (k : ℕ) (d : Part) → AllByRecursion P parts → k < length parts
    → P (slice_index_or parts k d)
all_at P [] k d all inside = absurd (omega (arith, inside))
all_at P (p ∷ ps) zero d all inside = all.0
all_at P (p ∷ ps) (suc k) d all inside = all_at P ps k d all.1 (omega (arith, inside))

-- The ranks rise.
pub ranks_rise : (parts : List Part) (i j : ℕ) (d : Part) → AreKept parts → i ≤ j → j < length parts
    → (slice_index_or parts i d).rank ≤ (slice_index_or parts j d).rank
ranks_rise [] i j d kept le inside = absurd (omega (arith, inside))
ranks_rise (p ∷ ps) zero zero d kept le inside = omega arith
ranks_rise (p ∷ ps) zero (suc j) d kept le inside =
    all_at (λ other. p.rank ≤ other.rank) ps j d kept.1 (omega (arith, inside))
ranks_rise (p ∷ ps) (suc i) zero d kept le inside = absurd (omega (arith, le))
ranks_rise (p ∷ ps) (suc i) (suc j) d kept le inside =
    ranks_rise ps i j d kept.2 (omega (arith, le)) (omega (arith, inside))

-- A part's rank is at most this one.
abbrev pub is_up_to : ℕ → Part → Bool
is_up_to rank part = nat_le part.rank rank

-- Parts of at most a rank come first.
pub order_parted : (rank : ℕ) (parts : List Part) → AreKept parts → IsPartitionedBy (is_up_to rank) parts
order_parted rank parts kept i j d le inside test =
    let low : (slice_index_or parts j d).rank ≤ rank = grind (arith, nat_tests) in
    let rise = ranks_rise parts i j d kept le inside in
    let below : (slice_index_or parts i d).rank ≤ rank = omega (arith, rise, low) in
    grind (arith, nat_tests)

-- A search that ends where the test fails first counts the parts.
pub count_found : (rank : ℕ) (parts : List Part) (count : ℕ)
    → IsPartitionPoint (λ p. is_up_to rank p ≡ true) (λ p. is_up_to rank p ≡ false) parts count
    → IsCountUpTo rank parts count
count_found rank parts count found = record {
  low = λ k d front inside. let test = found.0 k d (omega arith) front in grind (arith, nat_tests);
  high = λ k d behind inside. let test = found.1 k d behind inside in grind (arith, nat_tests);
}
