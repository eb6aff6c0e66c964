-- Messages that are alike are neighbours in the order of their numbers, payloads and places.
use Rattle.std.proofs.Common.{◌≡◌, inl, inr, ◌+◌, Bool, true, false, List, [], ◌∷◌, length, refl, ap}
use Rattle.std.proofs.Common.{arith, sym, ◌∙◌}
use Rattle.salvaging.specs.steps.Arrivals.{Arrival, AreOrdered, IsUpTo}
use Rattle.salvaging.specs.steps.Grouping.{are_alike, copies_by, copies_on, one_more}
use Rattle.salvaging.proofs.Members.{IsIn}
use Rattle.salvaging.proofs.OrderLemmas.{AreAlikeHere, Each, alike_back, alike_both, between, each_in, each_of_all}
use Rattle.salvaging.proofs.Alike.{alike_by_test, apart_by_test}

-- The message is one of the first of those alike, or not.
abbrev unless : Bool → Arrival → List Arrival → List Arrival
unless true next later = later
unless false next later = next ∷ later

-- The messages that are not alike with the one right before.
abbrev pub first_ones_on : Arrival → List Arrival → List Arrival
first_ones_on before [] = []
first_ones_on before (next ∷ arrivals) = unless (are_alike before next) next (first_ones_on next arrivals)

abbrev pub first_ones : List Arrival → List Arrival
first_ones [] = []
first_ones (first ∷ arrivals) = first ∷ first_ones_on first arrivals

-- The copies and the first ones are all.
counted_on : (before : Arrival) (arrivals : List Arrival)
    → copies_on before arrivals + length (first_ones_on before arrivals) ≡ length arrivals
counted_on before [] = refl
counted_on before (next ∷ arrivals) = by_test (are_alike before next) (counted_on next arrivals)
  where
    by_test : (alike : Bool) → copies_on next arrivals + length (first_ones_on next arrivals) ≡ length arrivals
        → one_more alike (copies_on next arrivals) + length (unless alike next (first_ones_on next arrivals))
        ≡ length (next ∷ arrivals)
    by_test true later = omega (arith, later)
    by_test false later = omega (arith, later)

pub counted : (arrivals : List Arrival) → copies_by arrivals + length (first_ones arrivals) ≡ length arrivals
counted [] = refl
counted (first ∷ arrivals) = let later = counted_on first arrivals in omega (arith, later)

-- The first ones are among all.
unless_in : (alike : Bool) (next : Arrival) (later : List Arrival) (one : Arrival) → IsIn one (unless alike next later)
    → IsIn one (next ∷ later)
unless_in true next later one there = inr there
unless_in false next later one there = there

among_on : (before : Arrival) (arrivals : List Arrival) (one : Arrival) → IsIn one (first_ones_on before arrivals)
    → IsIn one arrivals
among_on before [] one there = there
among_on before (next ∷ arrivals) one there =
    by_place (unless_in (are_alike before next) next (first_ones_on next arrivals) one there)
    (among_on next arrivals one)
  where
    by_place : IsIn one (next ∷ first_ones_on next arrivals)
        → (IsIn one (first_ones_on next arrivals) → IsIn one arrivals) → IsIn one (next ∷ arrivals)
    by_place (inl is) later = inl is
    by_place (inr further) later = inr (later further)

pub among : (arrivals : List Arrival) (one : Arrival) → IsIn one (first_ones arrivals) → IsIn one arrivals
among [] one there = there
among (first ∷ arrivals) one (inl is) = inl is
among (first ∷ arrivals) one (inr there) = inr (among_on first arrivals one there)

-- Each is alike with one of the first ones.
pub record HasFirst (ones : List Arrival) (message : Arrival) : Type 0 where
  pub one : Arrival
  pub there : IsIn one ones
  pub alike : AreAlikeHere message one

with_first : (next : Arrival) (ones : List Arrival) (message : Arrival) → message ≡ next
    → HasFirst (next ∷ ones) message
with_first next ones message is = record {
  one = next;
  there = inl refl;
  alike = record {
    number = ap (λ (a : Arrival). a.message.number) is;
    payload = ap (λ (a : Arrival). a.message.payload) is;
  };
}

first_by_test : (before next : Arrival) (ones : List Arrival) (message : Arrival) (alike : Bool)
    → (alike ≡ true → AreAlikeHere before next) → HasFirst (next ∷ ones) message
    → HasFirst (before ∷ unless alike next ones) message
first_by_test before next ones message true same found = by_place found.there
  where
    by_place : IsIn found.one (next ∷ ones) → HasFirst (before ∷ ones) message
    by_place (inl is) = record {
      one = before;
      there = inl refl;
      alike = record {
        number = found.alike.number ∙ ap (λ (a : Arrival). a.message.number) is ∙ sym (same refl).number;
        payload = found.alike.payload ∙ ap (λ (a : Arrival). a.message.payload) is ∙ sym (same refl).payload;
      };
    }
    by_place (inr there) = record { one = found.one; there = inr there; alike = found.alike }
first_by_test before next ones message false same found =
    record { one = found.one; there = inr found.there; alike = found.alike }

has_first_on : (before : Arrival) (arrivals : List Arrival) (message : Arrival) → IsIn message arrivals
    → HasFirst (before ∷ first_ones_on before arrivals) message
has_first_on before [] message there = absurd there
has_first_on before (next ∷ arrivals) message (inl is) =
    first_by_test before next (first_ones_on next arrivals) message (are_alike before next)
    (alike_by_test before next) (with_first next (first_ones_on next arrivals) message is)
has_first_on before (next ∷ arrivals) message (inr there) =
    first_by_test before next (first_ones_on next arrivals) message (are_alike before next)
    (alike_by_test before next) (has_first_on next arrivals message there)

pub has_first : (arrivals : List Arrival) (message : Arrival) → IsIn message arrivals
    → HasFirst (first_ones arrivals) message
has_first [] message there = absurd there
has_first (first ∷ arrivals) message (inl is) = with_first first (first_ones_on first arrivals) message is
has_first (first ∷ arrivals) message (inr there) = has_first_on first arrivals message there

-- No later first one is alike with a message.
apart_by_place : (before next : Arrival) (ones : List Arrival) (one : Arrival) (test : Bool)
    → (test ≡ true → AreAlikeHere before next) → (test ≡ false → ¬ AreAlikeHere before next)
    → (IsIn one ones → ¬ AreAlikeHere next one) → (IsIn one ones → AreAlikeHere before one → AreAlikeHere before next)
    → IsIn one (unless test next ones) → ¬ AreAlikeHere before one
apart_by_place before next ones one true same apart later between there alike =
    later there (alike_both next before one (alike_back before next (same refl)) alike)
apart_by_place before next ones one false same apart later between (inl is) alike = apart refl (record {
  number = alike.number ∙ ap (λ (a : Arrival). a.message.number) is;
  payload = alike.payload ∙ ap (λ (a : Arrival). a.message.payload) is;
})
apart_by_place before next ones one false same apart later between (inr there) alike =
    apart refl (between there alike)

none_alike : (before : Arrival) (arrivals : List Arrival) → Each (IsUpTo before) arrivals → AreOrdered arrivals
    → (one : Arrival) → IsIn one (first_ones_on before arrivals) → ¬ AreAlikeHere before one
none_alike before [] upto ordered one there = λ alike. there
none_alike before (next ∷ arrivals) upto ordered one there =
    let behind = each_of_all (IsUpTo next) arrivals ordered.0 in
    apart_by_place before next (first_ones_on next arrivals) one (are_alike before next)
    (alike_by_test before next) (apart_by_test before next)
    (none_alike next arrivals behind ordered.1 one)
    (λ further alike. between before next one upto.0
    (each_in (IsUpTo next) arrivals one behind (among_on next arrivals one further)) alike) there

-- No two of the first ones are alike.
abbrev pub NoneAlike : List Arrival → Type 0
NoneAlike [] = Unit {0}
NoneAlike (first ∷ ones) = ((one : Arrival) → IsIn one ones → ¬ AreAlikeHere first one) × NoneAlike ones

none_alike_on : (before : Arrival) (arrivals : List Arrival) → AreOrdered arrivals
    → NoneAlike (first_ones_on before arrivals)
none_alike_on before [] ordered = tt
none_alike_on before (next ∷ arrivals) ordered =
    by_test (are_alike before next) (none_alike_on next arrivals ordered.1)
    (none_alike next arrivals (each_of_all (IsUpTo next) arrivals ordered.0) ordered.1)
  where
    by_test : (test : Bool) → NoneAlike (first_ones_on next arrivals)
        → ((one : Arrival) → IsIn one (first_ones_on next arrivals) → ¬ AreAlikeHere next one)
        → NoneAlike (unless test next (first_ones_on next arrivals))
    by_test true later apart = later
    by_test false later apart = (apart, later)

pub first_ones_differ : (arrivals : List Arrival) → AreOrdered arrivals → NoneAlike (first_ones arrivals)
first_ones_differ [] ordered = tt
first_ones_differ (first ∷ arrivals) ordered = (
  none_alike first arrivals (each_of_all (IsUpTo first) arrivals ordered.0) ordered.1,
  none_alike_on first arrivals ordered.1,
)
