-- The entries of messages in the order of their numbers.
use Rattle.std.proofs.Common.{◌≡◌, ◌⊎◌, inl, inr, ℕ, ◌+◌, ◌≤◌, ◌<◌, ◌++◌, ◌==◌, ◌≢◌, Bool, true, false, List, [], ◌∷◌}
use Rattle.std.proofs.Common.{map, refl, sym, ap, subst, arith, append_assoc}
use Rattle.std.proofs.lemmas.Bool.{cases_lt, eq-eqb, eqb-true}
use Rattle.std.proofs.lemmas.List.{append-nil}
use Rattle.losses.specs.Apart.{AreRising}
use Rattle.losses.specs.WholeStretches.{NumberCame}
use Rattle.salvaging.specs.Entries.{Entry, Used, Doubtful, entry_number}
use Rattle.salvaging.specs.steps.Arrivals.{Arrival, AreOrdered, IsUpTo}
use Rattle.salvaging.specs.steps.Grouping.{entries_by, entries_on, entry_by, entry_with, join_or_begin}
use Rattle.salvaging.proofs.Members.{IsIn}
use Rattle.salvaging.proofs.OneMore.{IsEntryAmong, IsGroup, in_either, in_left, in_one, in_right, member, more_in_group}
use Rattle.salvaging.proofs.OneMore.{number_kept}
use Rattle.salvaging.proofs.OrderLemmas.{Each, each_in, each_of_all, no_lower}

-- The entries of messages, the numbers of which are not below this one.
pub record AreEntriesAmong (arrivals : List Arrival) (from : ℕ) (entries : List Entry) : Type 0 where
  pub rising : AreRising from (map entry_number entries)
  pub each : Each (IsEntryAmong arrivals) entries
  pub all : (one : Arrival) → IsIn one arrivals → NumberCame one.message.number (map entry_number entries)

-- The first of a number.
first_group : (next : Arrival) → IsGroup (next ∷ []) next (entry_by next)
first_group next = record {
  is_entry = record {
    one = next;
    there = inl refl;
    place_is = refl;
    number_is = refl;
    payload_is = refl;
    first = λ other there numbered. let is = ap (λ (a : Arrival). a.place) (in_one other next there) in
        omega (arith, is);
    alone = λ other there numbered. ap (λ (a : Arrival). a.message.payload) (in_one other next there);
  };
  numbers = λ one there. ap (λ (a : Arrival). a.message.number) (in_one one next there);
  last = inl refl;
  greatest = λ one there. inl (in_one one next there);
}

-- An entry stays one where messages with other numbers are added.
wider : (group others whole : List Arrival) (entry : Entry)
    → ((one : Arrival) → IsIn one group → IsIn one whole)
    → ((one : Arrival) → IsIn one whole → IsIn one others ⊎ IsIn one group)
    → ((one : Arrival) → IsIn one others → one.message.number ≢ entry_number entry)
    → IsEntryAmong group entry → IsEntryAmong whole entry
wider group others whole (Used number place payload) sub either apart is = record {
  one = is.one;
  there = sub is.one is.there;
  place_is = is.place_is;
  number_is = is.number_is;
  payload_is = is.payload_is;
  first = λ other there numbered. by_first other numbered (either other there);
  alone = λ other there numbered. by_alone other numbered (either other there);
}
  where
    by_first : (other : Arrival) → other.message.number ≡ number → IsIn other others ⊎ IsIn other group
        → place ≤ other.place
    by_first other numbered (inl there) = absurd (apart other there numbered)
    by_first other numbered (inr there) = is.first other there numbered

    by_alone : (other : Arrival) → other.message.number ≡ number → IsIn other others ⊎ IsIn other group
        → other.message.payload ≡ payload
    by_alone other numbered (inl there) = absurd (apart other there numbered)
    by_alone other numbered (inr there) = is.alone other there numbered
wider group others whole (Doubtful number first second) sub either apart is = record {
  one = is.one;
  other = is.other;
  one_there = sub is.one is.one_there;
  other_there = sub is.other is.other_there;
  one_place = is.one_place;
  other_place = is.other_place;
  one_number = is.one_number;
  other_number = is.other_number;
  differ = is.differ;
  least = λ other there numbered. by_least other numbered (either other there);
  least_other = λ other there numbered differs. by_other other numbered differs (either other there);
}
  where
    by_least : (other : Arrival) → other.message.number ≡ number → IsIn other others ⊎ IsIn other group
        → first ≤ other.place
    by_least other numbered (inl there) = absurd (apart other there numbered)
    by_least other numbered (inr there) = is.least other there numbered

    by_other : (other : Arrival) → other.message.number ≡ number
        → other.message.payload ≢ is.one.message.payload → IsIn other others ⊎ IsIn other group
        → second ≤ other.place
    by_other other numbered differs (inl there) = absurd (apart other there numbered)
    by_other other numbered differs (inr there) = is.least_other other there numbered differs

swapped : {P Q : Type 0} → P ⊎ Q → Q ⊎ P
swapped (inl p) = inr p
swapped (inr q) = inl q

wider_each : (group rest : List Arrival) (from : ℕ) (entries : List Entry)
    → ((one : Arrival) → IsIn one group → one.message.number < from) → AreRising from (map entry_number entries)
    → Each (IsEntryAmong rest) entries → Each (IsEntryAmong (group ++ rest)) entries
wider_each group rest from [] lower rising each = tt
wider_each group rest from (entry ∷ entries) lower rising (is, each) = (
  wider rest group (group ++ rest) entry (in_right group rest) (in_either group rest)
      (λ one there same.
      let below = lower one there in
      let above = rising.0 in
      omega (arith, below, above, same)) is,
  wider_each group rest (entry_number entry + 1) entries
      (λ one there.
      let below = lower one there in
      let above = rising.0 in
      omega (arith, below, above)) rising.1 each,
)

rising_lower : (from lower : ℕ) (numbers : List ℕ) → lower ≤ from → AreRising from numbers → AreRising lower numbers
rising_lower from lower [] below rising = tt
rising_lower from lower (number ∷ numbers) below rising =
    let above = rising.0 in (omega (arith, below, above), rising.1)

heads : (group : List Arrival) (next : Arrival) (arrivals : List Arrival)
    → Each (λ one. Each (IsUpTo one) (next ∷ arrivals)) group → Each (λ one. IsUpTo one next) group
heads [] next arrivals upto = tt
heads (one ∷ group) next arrivals upto = (upto.0.0, heads group next arrivals upto.1)

tails : (group : List Arrival) (next : Arrival) (arrivals : List Arrival)
    → Each (λ one. Each (IsUpTo one) (next ∷ arrivals)) group → Each (IsUpTo next) arrivals
    → Each (λ one. Each (IsUpTo one) arrivals) (group ++ next ∷ [])
tails [] next arrivals upto behind = (behind, tt)
tails (one ∷ group) next arrivals upto behind = (upto.0.1, tails group next arrivals upto.1 behind)

module _ (group : List Arrival) (before next : Arrival) (arrivals : List Arrival) (entry : Entry)
    (g : IsGroup group before entry)
    (upto : Each (λ one. IsUpTo one next) group) (behind : Each (IsUpTo next) arrivals)
    (later_same : IsGroup (group ++ next ∷ []) next (entry_with entry before next)
    → AreEntriesAmong ((group ++ next ∷ []) ++ arrivals) (entry_number (entry_with entry before next))
    (entries_on (entry_with entry before next) next arrivals))
    (later_new : AreEntriesAmong (next ∷ arrivals) next.message.number (entries_on (entry_by next) next arrivals)) where
  below : (entry_number entry == next.message.number) ≡ false → entry_number entry < next.message.number
  below is =
      let one = member group entry g.is_entry in
      let least = no_lower one.0 next (each_in (λ one. IsUpTo one next) group one.0 upto one.1) in
      let numbered = g.numbers one.0 one.1 in
      by_place (cases_lt (entry_number entry) next.message.number) (omega (arith, least, numbered))
    where
      by_place : (entry_number entry < next.message.number) ⊎ (next.message.number ≤ entry_number entry)
          → entry_number entry ≤ next.message.number → entry_number entry < next.message.number
      by_place (inl lower) least = lower
      by_place (inr over) least =
          let equal = eq-eqb (entry_number entry) next.message.number (omega (arith, over, least)) in cc

  apart : entry_number entry < next.message.number → (one : Arrival) → IsIn one (next ∷ arrivals)
      → one.message.number ≢ entry_number entry
  apart lower one (inl is) same =
      let here = ap (λ (a : Arrival). a.message.number) is in omega (arith, lower, here, same)
  apart lower one (inr there) same =
      let least = no_lower next one (each_in (IsUpTo next) arrivals one behind there) in
      omega (arith, lower, least, same)

  step : (same : Bool) → (entry_number entry == next.message.number) ≡ same
      → AreEntriesAmong (group ++ next ∷ arrivals) (entry_number entry)
      (join_or_begin same entry before next (λ later. entries_on later next arrivals))
  step true is =
      let here = eqb-true (entry_number entry) next.message.number is in
      let later = later_same (more_in_group group before next entry g here upto) in
      subst (λ l. AreEntriesAmong l (entry_number entry) (entries_on (entry_with entry before next) next arrivals))
      (append_assoc group (next ∷ []) arrivals)
      (subst (λ n. AreEntriesAmong ((group ++ next ∷ []) ++ arrivals) n
      (entries_on (entry_with entry before next) next arrivals)) (number_kept entry before next) later)
  step false is =
      let lower = below is in
      let rest = entries_on (entry_by next) next arrivals in
      record {
        rising = (
          omega arith,
          rising_lower next.message.number (entry_number entry + 1) (map entry_number rest) (omega (arith, lower))
              later_new.rising,
        );
        each = (
          wider group (next ∷ arrivals) (group ++ next ∷ arrivals) entry (in_left group (next ∷ arrivals))
              (λ one there. swapped (in_either group (next ∷ arrivals) one there)) (apart lower) g.is_entry,
          wider_each group (next ∷ arrivals) next.message.number rest
              (λ one there. let numbered = g.numbers one there in omega (arith, numbered, lower)) later_new.rising
              later_new.each,
        );
        all = λ one there. by_place one (in_either group (next ∷ arrivals) one there);
      }
    where
      by_place : (one : Arrival) → IsIn one group ⊎ IsIn one (next ∷ arrivals)
          → NumberCame one.message.number
          (entry_number entry ∷ map entry_number (entries_on (entry_by next) next arrivals))
      by_place one (inl there) = inl (g.numbers one there)
      by_place one (inr there) = inr (later_new.all one there)

pub entries_on_are : (arrivals group : List Arrival) (before : Arrival) (entry : Entry) → IsGroup group before entry
    → Each (λ one. Each (IsUpTo one) arrivals) group → AreOrdered arrivals
    → AreEntriesAmong (group ++ arrivals) (entry_number entry) (entries_on entry before arrivals)
entries_on_are [] group before entry g upto ordered =
    subst (λ l. AreEntriesAmong l (entry_number entry) (entry ∷ [])) (sym (append-nil group)) (record {
      rising = (omega arith, tt);
      each = (g.is_entry, tt);
      all = λ one there. inl (g.numbers one there);
    })
entries_on_are (next ∷ arrivals) group before entry g upto ordered =
    let behind = each_of_all (IsUpTo next) arrivals ordered.0 in
    step group before next arrivals entry g (heads group next arrivals upto) behind
    (λ more. entries_on_are arrivals (group ++ next ∷ []) next (entry_with entry before next) more
    (tails group next arrivals upto behind) ordered.1)
    (entries_on_are arrivals (next ∷ []) next (entry_by next) (first_group next) (behind, tt) ordered.1)
    (entry_number entry == next.message.number) refl

-- The entries of all.
pub entries_are : (arrivals : List Arrival) → AreOrdered arrivals → AreEntriesAmong arrivals 0 (entries_by arrivals)
entries_are [] ordered = record { rising = tt; each = tt; all = λ one there. absurd there }
entries_are (first ∷ arrivals) ordered =
    let behind = each_of_all (IsUpTo first) arrivals ordered.0 in
    let are = entries_on_are arrivals (first ∷ []) first (entry_by first) (first_group first) (behind, tt) ordered.1 in
    record {
      rising = rising_lower first.message.number 0 (map entry_number (entries_on (entry_by first) first arrivals))
          (omega arith) are.rising;
      each = are.each;
      all = are.all;
    }
