-- The counts of a hart's entries are small.
use Rattle.std.proofs.Common.{◌≡◌, ℕ, ◌^◌, ◌<◌, ◌≤◌, All, List, length, map, ap, subst}
use Rattle.std.proofs.Common.{◌∙◌, arith}
use Rattle.std.proofs.lemmas.List.{length-map}
use Rattle.std.proofs.lemmas.List.Sums.{count_by-le-length}
use Rattle.salvaging.specs.Entries.{Entry, Used, Doubtful}
use Rattle.salvaging.specs.Far.{ahead, comes_behind}
use Rattle.salvaging.proofs.FarByBound.{all_of, of_map}
use Rattle.salvaging.proofs.Members.{IsIn}

few_one : (entries : List Entry) (entry : Entry) → ahead entries entry ≤ length entries
few_one entries (Used number place payload) = count_by-le-length (comes_behind number place) entries
few_one entries (Doubtful number first second) = omega arith

-- No count is greater than how many messages there are.
pub few_counts : (entries : List Entry) (counts : List ℕ) (total : ℕ) → counts ≡ map (ahead entries) entries
    → length counts ≤ total → total < 2 ^ 63 → All (λ count. count < 2 ^ 63) counts
few_counts entries counts total are few small = all_of (λ count. count < 2 ^ 63) counts (λ count there.
    let found = of_map (ahead entries) entries count (subst (IsIn count) are there) in
    let most = few_one entries found.0 in
    let same = found.2 in
    let long = ap length are ∙ length-map entries (ahead entries) in
    omega (arith, most, same, long, few, small))
