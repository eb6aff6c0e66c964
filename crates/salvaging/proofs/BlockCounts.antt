-- How many places come after one, by the counts of their blocks.
use Rattle.std.proofs.Common.{◌≡◌, ◌⊎◌, inl, inr, ℕ, zero, suc, ◌+◌, ◌-◌, ◌*◌, ◌/◌, ◌%◌, ◌^◌, ◌<◌, ◌≤◌, ◌++◌, ◌==◌, All, Bool}
use Rattle.std.proofs.Common.{zero-add, true, false, cond, List, [], ◌∷◌, drop, get_or, length, map, take, refl, sym, ap, subst, ◌∙◌, arith, rules}
use Rattle.std.specs.Prelude.{count_by, nat_le, nat_lt, slice_set, sum}
use Rattle.std.specs.declared.vec.Vec.{Vec}
use Rattle.std.proofs.lemmas.Bool.{cases_lt, lt-ltb, le-ltb, lt-leb, le-leb, eq-eqb, ne_eqb}
use Rattle.std.proofs.lemmas.List.{drop_more, length-map, length-set, map-append}
use Rattle.std.proofs.lemmas.List.Elements.{All-cons, All-head, All-push, All-tail}
use Rattle.std.proofs.lemmas.List.Sums.{count_by-le-length, sum-map, sum_by-cons, sum_by_push}
use Rattle.salvaging.specs.steps.Ahead.{AreLevels, AreTaken, CanRaise, CountBlocks, CountPlaces, block_behind, block_of}
use Rattle.salvaging.specs.steps.Ahead.{blocks_behind, count_behind, flag_count, flags_behind, lists_in, raised}
use Rattle.salvaging.proofs.FarByBound.{none_passes, one_of}

-- The levels from a place on are the one there and those after it.
pub levels_from : {A : Type 0} (levels : List (Vec ℕ A)) (k : ℕ) (level : Vec ℕ A) → k < length levels
    → level ≡ get_or levels k level → lists_in (drop k levels) ≡ level.items ∷ lists_in (drop (k + 1) levels)
levels_from levels k level within is =
    ap lists_in (drop_more levels k level within)
    ∙ ap (λ (one : Vec ℕ _). one.items ∷ lists_in (drop (k + 1) levels)) (sym is)

-- A count of what passes one of two tests that exclude each other.
split_count : (p q r : ℕ → Bool) → ((x : ℕ) → cond (p x) 1 0 ≡ cond (q x) 1 0 + cond (r x) 1 0) → (xs : List ℕ)
    → count_by p xs ≡ count_by q xs + count_by r xs
split_count p q r each [] = refl
split_count p q r each (x ∷ xs) =
    let a = sum_by-cons (λ y. cond (p y) 1 0) x xs in
    let b = sum_by-cons (λ y. cond (q y) 1 0) x xs in
    let c = sum_by-cons (λ y. cond (r y) 1 0) x xs in
    let here = each x in
    let later = split_count p q r each xs in
    omega (arith, a, b, c, here, later)

same_count : (p q : ℕ → Bool) → ((x : ℕ) → p x ≡ q x) → (xs : List ℕ) → count_by p xs ≡ count_by q xs
same_count p q each [] = refl
same_count p q each (x ∷ xs) =
    sum_by-cons (λ y. cond (p y) 1 0) x xs ∙ ap (λ b. cond b 1 0 + count_by p xs) (each x)
    ∙ ap (λ n. cond (q x) 1 0 + n) (same_count p q each xs) ∙ sym (sum_by-cons (λ y. cond (q y) 1 0) x xs)

count_map : (p : ℕ → Bool) (f : ℕ → ℕ) (xs : List ℕ) → count_by p (map f xs) ≡ count_by (λ x. p (f x)) xs
count_map p f [] = refl
count_map p f (x ∷ xs) =
    sum_by-cons (λ y. cond (p y) 1 0) (f x) (map f xs) ∙ ap (λ n. cond (p (f x)) 1 0 + n) (count_map p f xs)
    ∙ sym (sum_by-cons (λ y. cond (p (f y)) 1 0) x xs)

-- How many places are this one or after it.
abbrev from_on : ℕ → List ℕ → ℕ
from_on from places = count_by (nat_le from) places

one_less : (from : ℕ) (x : ℕ) → cond (nat_le from x) 1 0 ≡ cond (x == from) 1 0 + cond (nat_le (suc from) x) 1 0
one_less from x = by_order (cases_lt x from)
  where
    above : from ≤ x → (x < suc from) ⊎ (suc from ≤ x)
        → cond (nat_le from x) 1 0 ≡ cond (x == from) 1 0 + cond (nat_le (suc from) x) 1 0
    above least (inl same) =
        let is : x ≡ from = omega (arith, least, same) in
        ap (λ b. cond b 1 0) (le-leb from x least)
        ∙ sym (ap (λ b. cond b 1 0 + cond (nat_le (suc from) x) 1 0) (eq-eqb x from is)
        ∙ ap (λ b. 1 + cond b 1 0) (lt-leb (suc from) x same))
    above least (inr more) =
        let not : ¬ (x ≡ from) = λ is. omega (arith, more, is) in
        ap (λ b. cond b 1 0) (le-leb from x least)
        ∙ sym (ap (λ b. cond b 1 0 + cond (nat_le (suc from) x) 1 0) (ne_eqb x from not)
        ∙ ap (λ b. 0 + cond b 1 0) (le-leb (suc from) x more))

    by_order : (x < from) ⊎ (from ≤ x)
        → cond (nat_le from x) 1 0 ≡ cond (x == from) 1 0 + cond (nat_le (suc from) x) 1 0
    by_order (inl below) =
        let not : ¬ (x ≡ from) = λ is. omega (arith, below, is) in
        ap (λ b. cond b 1 0) (lt-leb from x below)
        ∙ sym (ap (λ b. cond b 1 0 + cond (nat_le (suc from) x) 1 0) (ne_eqb x from not)
        ∙ ap (λ b. 0 + cond b 1 0) (lt-leb (suc from) x (omega (arith, below))))
    by_order (inr least) = above least (cases_lt x (suc from))

take_nil : (n : ℕ) → take {A = ℕ} n [] ≡ []
take_nil zero = refl
take_nil (suc n) = refl

head_first : (xs : List ℕ) (from n : ℕ)
    → sum (take (suc n) (drop from xs)) ≡ get_or xs from 0 + sum (take n (drop (suc from) xs))
head_first [] zero n = sym (ap (λ l. 0 + sum l) (take_nil n))
head_first [] (suc from) n = sym (ap (λ l. 0 + sum l) (take_nil n))
head_first (x ∷ xs) zero n = sum_by-cons (λ y. y) x (take n xs)
head_first (x ∷ xs) (suc from) n = head_first xs from n

-- The counts of a range and what is after it come to what is from its first place on.
range_count : (counts places : List ℕ) → CountPlaces counts places → (n from : ℕ)
    → sum (take n (drop from counts)) + from_on (from + n) places ≡ from_on from places
range_count counts places are zero from =
    let same : from + 0 ≡ from = omega arith in zero-add (from_on (from + 0) places) ∙ ap (λ k. from_on k places) same
range_count counts places are (suc n) from =
    let first = head_first counts from n in
    let here = are from in
    let rest = range_count counts places are n (suc from) in
    let end : suc from + n ≡ from + suc n = omega arith in
    let ends = ap (λ k. from_on k places) end in
    let parts = split_count (nat_le from) (λ x. x == from) (nat_le (suc from)) (one_less from) places in
    omega (arith, first, here, rest, ends, parts)

behind_is_on : (place : ℕ) (places : List ℕ) → count_behind place places ≡ from_on (place + 1) places
behind_is_on place places = same_count (nat_lt place) (nat_le (place + 1)) (λ x. each x (cases_lt place x)) places
  where
    each : (x : ℕ) → (place < x) ⊎ (x ≤ place) → nat_lt place x ≡ nat_le (place + 1) x
    each x (inl below) = lt-ltb place x below ∙ sym (le-leb (place + 1) x (omega (arith, below)))
    each x (inr over) = le-ltb place x over ∙ sym (lt-leb (place + 1) x (omega (arith, over)))

-- What is after the block is what is in a later one.
later_blocks : (block end : ℕ) (places : List ℕ) → end ≡ 64 * block + 64
    → from_on end places ≡ count_behind block (map block_of places)
later_blocks block end places is =
    same_count (nat_le end) (λ x. nat_lt block (block_of x)) (λ x. each x (cases_lt x end)) places
    ∙ sym (count_map (nat_lt block) block_of places)
  where
    each : (x : ℕ) → (x < end) ⊎ (end ≤ x) → nat_le end x ≡ nat_lt block (block_of x)
    each x (inl below) = lt-leb end x below ∙ sym (le-ltb block (x / 64) (omega (arith, below, is)))
    each x (inr over) = le-leb end x over ∙ sym (lt-ltb block (x / 64) (omega (arith, over, is)))

-- What is after a place is in its block or in a later one.
pub in_blocks : (counts places : List ℕ) → CountPlaces counts places → (place : ℕ)
    → sum (block_behind counts place) + count_behind (block_of place) (map block_of places) ≡ count_behind place places
in_blocks counts places are place =
    let end : place + 1 + (63 - place % 64) ≡ 64 * (place / 64) + 64 = omega arith in
    ap (λ n. sum (block_behind counts place) + n) (sym (later_blocks (place / 64) (place + 1 + (63 - place % 64)) places end))
    ∙ range_count counts places are (63 - place % 64) (place + 1) ∙ sym (behind_is_on place places)

pub levels_behind : (levels : List (List ℕ)) (places : List ℕ) → CountBlocks levels places → (place : ℕ)
    → blocks_behind place levels ≡ count_behind (block_of place) (map block_of places)
levels_behind [] places all place =
    sym (count_map (nat_lt (block_of place)) block_of places
    ∙ none_passes (λ x. nat_lt (block_of place) (block_of x)) places (λ x there.
    let is = one_of (λ y. block_of y ≡ 0) places x all there in
    le-ltb (block_of place) (block_of x) (omega (arith, is))))
levels_behind (level ∷ levels) places are place =
    let here = in_blocks level (map block_of places) are.0 (block_of place) in
    let rest = levels_behind levels (map block_of places) are.1 (block_of place) in
    omega (arith, here, rest)

map_part : (f : Bool → ℕ) (xs : List Bool) (from n : ℕ)
    → map f (take n (drop from xs)) ≡ take n (drop from (map f xs))
map_part f xs zero n = by_take xs n
  where
    by_take : (ys : List Bool) (k : ℕ) → map f (take k ys) ≡ take k (map f ys)
    by_take ys zero = refl
    by_take [] (suc k) = refl
    by_take (y ∷ ys) (suc k) = ap (λ l. f y ∷ l) (by_take ys k)
map_part f [] (suc from) zero = refl
map_part f [] (suc from) (suc n) = refl
map_part f (x ∷ xs) (suc from) n = map_part f xs from n

-- All that is after a place is counted by the flags of its block and by the levels.
pub all_behind : (taken : List Bool) (levels : List (List ℕ)) (places : List ℕ) → AreTaken taken levels places
    → (place : ℕ) → flags_behind place taken levels ≡ count_behind place places
all_behind taken levels places are place =
    ap (λ n. n + blocks_behind place levels)
    (sym (sum-map flag_count (block_behind taken place)) ∙ ap sum (map_part flag_count taken (place + 1) (63 - place % 64)))
    ∙ ap (λ n. sum (block_behind (map flag_count taken) place) + n) (levels_behind levels places are.blocks place)
    ∙ in_blocks (map flag_count taken) places are.flags place

pub few_behind : (place : ℕ) (places : List ℕ) → count_behind place places ≤ length places
few_behind place places = count_by-le-length (nat_lt place) places

-- One more place.
get_same : (xs : List ℕ) (at x : ℕ) → at < length xs → get_or (slice_set xs at x) at 0 ≡ x
get_same [] at x within = absurd (omega (arith, within))
get_same (y ∷ xs) zero x within = refl
get_same (y ∷ xs) (suc at) x within = get_same xs at x (omega (arith, within))

get_other : (xs : List ℕ) (at x other : ℕ) → ¬ (other ≡ at) → get_or (slice_set xs at x) other 0 ≡ get_or xs other 0
get_other [] at x other not = refl
get_other (y ∷ xs) zero x zero not = absurd (not refl)
get_other (y ∷ xs) zero x (suc other) not = refl
get_other (y ∷ xs) (suc at) x zero not = refl
get_other (y ∷ xs) (suc at) x (suc other) not = get_other xs at x other (λ is. not (ap suc is))

count_raised : (counts places : List ℕ) → CountPlaces counts places → (at : ℕ) → at < length counts
    → CountPlaces (slice_set counts at (get_or counts at 0 + 1)) (places ++ at ∷ [])
count_raised counts places are at within = λ j. by_test j (eq_or j)
  where
    eq_or : (j : ℕ) → (j ≡ at) ⊎ (¬ (j ≡ at))
    eq_or j = by_order (cases_lt j at) (cases_lt at j)
      where
        by_order : (j < at) ⊎ (at ≤ j) → (at < j) ⊎ (j ≤ at) → (j ≡ at) ⊎ (¬ (j ≡ at))
        by_order (inl below) other = inr (λ is. omega (arith, below, is))
        by_order (inr over) (inl above) = inr (λ is. omega (arith, above, is))
        by_order (inr over) (inr under) = inl (omega (arith, over, under))

    by_test : (j : ℕ) → (j ≡ at) ⊎ (¬ (j ≡ at))
        → get_or (slice_set counts at (get_or counts at 0 + 1)) j 0 ≡ count_by (λ x. x == j) (places ++ at ∷ [])
    by_test j (inl is) =
        ap (λ k. get_or (slice_set counts at (get_or counts at 0 + 1)) k 0) is
        ∙ get_same counts at (get_or counts at 0 + 1) within ∙ ap (λ n. n + 1) (are at)
        ∙ ap (λ k. count_by (λ x. x == k) places + 1) (sym is)
        ∙ sym (sum_by_push (λ x. cond (x == j) 1 0) places at
        ∙ ap (λ b. count_by (λ x. x == j) places + cond b 1 0) (eq-eqb at j (sym is)))
    by_test j (inr not) =
        get_other counts at (get_or counts at 0 + 1) j not ∙ are j
        ∙ sym (sum_by_push (λ x. cond (x == j) 1 0) places at
        ∙ ap (λ b. count_by (λ x. x == j) places + cond b 1 0) (ne_eqb at j (λ is. not (sym is))) ∙ omega arith)

map_set : (xs : List Bool) (at : ℕ) (x : Bool)
    → map flag_count (slice_set xs at x) ≡ slice_set (map flag_count xs) at (flag_count x)
map_set [] at x = refl
map_set (y ∷ xs) zero x = refl
map_set (y ∷ xs) (suc at) x = ap (λ l. flag_count y ∷ l) (map_set xs at x)

pub blocks_raised : (long : ℕ) (levels : List (List ℕ)) (places : List ℕ) (place : ℕ) → AreLevels long levels
    → place < long → CountBlocks levels places → CountBlocks (raised place levels) (places ++ place ∷ [])
blocks_raised long [] places place few within are =
    All-push (λ x. block_of x ≡ 0) places place are (omega (arith, few, within))
blocks_raised long (level ∷ levels) places place over within are =
    let fits : place / 64 < length level = let is = over.0 in omega (arith, is, within) in
    let both = map-append block_of places (place ∷ []) in (
      subst (CountPlaces (slice_set level (block_of place) (get_or level (block_of place) 0 + 1))) (sym both)
          (count_raised level (map block_of places) are.0 (block_of place) fits),
      subst (CountBlocks (raised (block_of place) levels)) (sym both)
          (blocks_raised (length level) levels (map block_of places) (block_of place) over.1 fits are.1),
    )

pub levels_raised : (long : ℕ) (levels : List (List ℕ)) (place : ℕ) → AreLevels long levels
    → AreLevels long (raised place levels)
levels_raised long [] place are = are
levels_raised long (level ∷ levels) place are =
    let same = length-set level (block_of place) (get_or level (block_of place) 0 + 1) in (
      same ∙ are.0,
      subst (λ n. AreLevels n (raised (block_of place) levels)) (sym same)
          (levels_raised (length level) levels (block_of place) are.1),
    )

can_raise : (levels : List (List ℕ)) (places : List ℕ) (place : ℕ) → CountBlocks levels places
    → length places < 2 ^ 63 → CanRaise place levels
can_raise [] places place are few = tt
can_raise (level ∷ levels) places place are few =
    let count = are.0 (block_of place) in
    let most = count_by-le-length (λ x. x == block_of place) (map block_of places) in
    let same = length-map places block_of in (
      omega (arith, count, most, same, few),
      can_raise levels (map block_of places) (block_of place) are.1 (omega (arith, same, few)),
    )

pub can_add : (taken : List Bool) (levels : List (List ℕ)) (places : List ℕ) → AreTaken taken levels places
    → length places < 2 ^ 63 → (place : ℕ) → CanRaise place levels
can_add taken levels places are few place = can_raise levels places place are.blocks few

pub one_more_taken : (taken : List Bool) (levels : List (List ℕ)) (places : List ℕ) → AreTaken taken levels places
    → (place : ℕ) → place < length taken → count_by (λ x. x == place) places ≡ 0
    → AreTaken (slice_set taken place true) (raised place levels) (places ++ place ∷ [])
one_more_taken taken levels places are place within free =
    let count = length-map taken flag_count in
    let clear : get_or (map flag_count taken) place 0 ≡ 0 = are.flags place ∙ free in
    let same = length-set taken place true in
    record {
      flags = subst (λ l. CountPlaces l (places ++ place ∷ []))
          (ap (λ n. slice_set (map flag_count taken) place (n + 1)) clear ∙ sym (map_set taken place true))
          (count_raised (map flag_count taken) places are.flags place (omega (arith, count, within)));
      blocks = blocks_raised (length taken) levels places place are.long within are.blocks;
      long = subst (λ n. AreLevels n (raised place levels)) (sym same)
          (levels_raised (length taken) levels place are.long);
    }

-- None is taken.
zero_counts : (counts : List ℕ) → All (λ n. n ≡ 0) counts → CountPlaces counts []
zero_counts counts all = λ at. at_all counts all at
  where
    at_all : (xs : List ℕ) → All (λ n. n ≡ 0) xs → (j : ℕ) → get_or xs j 0 ≡ 0
    at_all [] every j = refl
    at_all (x ∷ xs) every zero = All-head (λ n. n ≡ 0) x xs every
    at_all (x ∷ xs) every (suc j) = at_all xs (All-tail (λ n. n ≡ 0) x xs every) j

clear_blocks : (levels : List (List ℕ)) → All (λ level. All (λ n. n ≡ 0) level) levels → CountBlocks levels []
clear_blocks [] all = search rules
clear_blocks (level ∷ levels) all = (
  zero_counts level (All-head (λ l. All (λ n. n ≡ 0) l) level levels all),
  clear_blocks levels (All-tail (λ l. All (λ n. n ≡ 0) l) level levels all),
)

pub none_taken : (taken : List Bool) (levels : List (List ℕ)) → All (λ flag. flag ≡ false) taken
    → AreLevels (length taken) levels → All (λ level. All (λ n. n ≡ 0) level) levels → AreTaken taken levels []
none_taken taken levels clear long zeros = record {
  flags = zero_counts (map flag_count taken) (all_clear taken clear);
  blocks = clear_blocks levels zeros;
  long = long;
}
  where
    all_clear : (xs : List Bool) → All (λ flag. flag ≡ false) xs → All (λ n. n ≡ 0) (map flag_count xs)
    all_clear [] every = search rules
    all_clear (x ∷ xs) every =
        All-cons (λ n. n ≡ 0) (flag_count x) (map flag_count xs)
        (ap flag_count (All-head (λ flag. flag ≡ false) x xs every))
        (all_clear xs (All-tail (λ flag. flag ≡ false) x xs every))
