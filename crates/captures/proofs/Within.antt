-- How large measures grow.
use Rattle.std.proofs.Common.{◌≡◌, ℕ, ◌+◌, ◌*◌, ◌≤◌, Bool, true, false, List, [], ◌∷◌, length, arith, refl, subst, sym}
use Rattle.retire.specs.Events.{is_retirement, is_branch}
use Rattle.retire.specs.declared.event.Event.{Event}
use Rattle.captures.specs.Kinds.{is_trap}
use Rattle.captures.specs.Measures.{counted, measured, together}
use Rattle.captures.specs.declared.measures.Measures.{Measures}
use Rattle.captures.specs.Bounds.{AreWithin, most_counted}
use Rattle.captures.specs.steps.Counting.{GrowsBy}
use Rattle.captures.proofs.CountedTogether.{counted-append}

-- Of one item at most one passes a test.
one_at_most : {A : Type 0} (test : A → Bool) (item : A) → counted test (item ∷ []) ≤ 1
one_at_most test item = go (test item) refl
  where
    go : (passes : Bool) → test item ≡ passes → counted test (item ∷ []) ≤ 1
    go true is = rw is (omega arith)
    go false is = rw is (omega arith)

pub AreWithin-le : (k l : ℕ) (m : Measures) → k ≤ l → AreWithin k m → AreWithin l m
AreWithin-le k l m le few = record {
  events = omega arith;
  retirements = omega arith;
  traps = omega arith;
  branches = omega arith;
  packets = omega arith;
  support = omega arith;
  sync = omega arith;
  trap = omega arith;
  address = omega arith;
  map = omega arith;
  notify = omega arith;
  updiscon = omega arith;
  payload_bytes = omega arith;
  longest = omega arith;
}

-- No more items than there are pass a test.
few_counted : {A : Type 0} (test : A → Bool) (items : List A) → counted test items ≤ length items
few_counted test [] = omega arith
few_counted test (item ∷ items) =
    let one = one_at_most test item in
    let rest = few_counted test items in
    let both = counted-append test (item ∷ []) items in omega (arith, one, rest, both)

pub AreWithin-events : (es : List Event) → AreWithin (length es) (measured es [] [])
AreWithin-events es = record {
  events = omega arith;
  retirements = few_counted is_retirement es;
  traps = few_counted is_trap es;
  branches = few_counted is_branch es;
  packets = omega arith;
  support = omega arith;
  sync = omega arith;
  trap = omega arith;
  address = omega arith;
  map = omega arith;
  notify = omega arith;
  updiscon = omega arith;
  payload_bytes = omega arith;
  longest = omega arith;
}

pub AreWithin-together : (k l : ℕ) (a b : Measures) → AreWithin k a → AreWithin l b → AreWithin (k + l) (together a b)
AreWithin-together k l a b x y = record {
  events = omega arith;
  retirements = omega arith;
  traps = omega arith;
  branches = omega arith;
  packets = omega arith;
  support = omega arith;
  sync = omega arith;
  trap = omega arith;
  address = omega arith;
  map = omega arith;
  notify = omega arith;
  updiscon = omega arith;
  payload_bytes = omega arith;
  longest = omega arith;
}

-- What comes together with other measures grows by their bound.
pub GrowsBy-together : (more : ℕ) (old new other : Measures) → new ≡ together old other → AreWithin more other
    → GrowsBy more old new
GrowsBy-together more old new other is few limit within =
    subst (AreWithin (limit + more)) (sym is) (AreWithin-together limit more old other within few)

pub GrowsBy-trans : (one other : ℕ) (old mid new : Measures) → GrowsBy one old mid → GrowsBy other mid new
    → GrowsBy (one + other) old new
GrowsBy-trans one other old mid new first then limit within =
    let all : limit + one + other ≡ limit + (one + other) = omega arith in
    subst (λ n. AreWithin n new) all (then (limit + one) (first limit within))

pub GrowsBy-le : (one other : ℕ) (old new : Measures) → one ≤ other → GrowsBy one old new → GrowsBy other old new
GrowsBy-le one other old new le grows limit within =
    AreWithin-le (limit + one) (limit + other) new (omega (arith, le)) (grows limit within)

-- The measures of harts and of one more are within the bound of so many harts.
pub few_added : (harts : ℕ) (before one after : Measures) → AreWithin (harts * most_counted) before
    → AreWithin most_counted one → after ≡ together before one → AreWithin ((harts + 1) * most_counted) after
few_added harts before one after few another added =
    let further : harts * most_counted + most_counted ≡ (harts + 1) * most_counted = omega arith in
    subst (AreWithin ((harts + 1) * most_counted)) (sym added)
    (subst (λ limit. AreWithin limit (together before one)) further
    (AreWithin-together (harts * most_counted) most_counted before one few another))
