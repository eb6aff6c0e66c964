-- How far the messages of the last number are read, from one message to the one before.
use Rattle.std.proofs.Common.{◌≡◌, ◌≢◌, ℕ, ◌+◌, ◌-◌, ◌≤◌, ◌<◌, ◌++◌, List, [], ◌∷◌, drop, get_or, length, take}
use Rattle.std.proofs.Common.{refl, sym, ap, subst, ◌∙◌, arith}
use Rattle.std.proofs.lemmas.List.{append-nil, length-drop, map-append, take-append-drop, take_all, take_more}
use Rattle.salvaging.specs.Entries.{Entry}
use Rattle.salvaging.specs.declared.received.ReceivedMessage.{ReceivedMessage}
use Rattle.salvaging.specs.steps.Arrivals.{Arrival, arrival_of, arrivals_in}
use Rattle.salvaging.specs.steps.Grouping.{AreOfOne, HaveOne, IsLastGroup, entries_by}
use Rattle.salvaging.proofs.EntriesParted.{one_entry, parted}
use Rattle.salvaging.proofs.GroupParted.{number_of_first}

-- The messages up to a place.
up_to_place : (came : List ReceivedMessage) (at : ℕ) (one : ReceivedMessage) → at < length came
    → one ≡ get_or came at one
    → take (at + 1) came ≡ take at came ++ one ∷ []
up_to_place came at one within is = take_more came at one within ∙ ap (λ o. take at came ++ o ∷ []) (sym is)

-- The messages from this place on are read, which have the last number.
pub record ReadsLast (came : List ReceivedMessage) (number at : ℕ) : Type 0 where
  pub group : List Arrival
  pub whole : arrivals_in came ≡ arrivals_in (take at came) ++ group
  pub numbers : HaveOne number group

pub reads_last : (came : List ReceivedMessage) (last : ReceivedMessage) → 0 < length came
    → last ≡ get_or came (length came - 1) last → ReadsLast came last.message.now.number (length came - 1)
reads_last came last some is =
    let back : length came ≡ length came - 1 + 1 = omega (arith, some) in
    let before = take (length came - 1) came in
    record {
      group = arrival_of last ∷ [];
      whole = sym (ap arrivals_in (take_all (length came) came (omega arith)))
          ∙ ap (λ n. arrivals_in (take n came)) back
          ∙ ap arrivals_in (up_to_place came (length came - 1) last (omega (arith, some)) is)
          ∙ map-append arrival_of before (last ∷ []);
      numbers = (refl, tt);
    }

none_behind : (arrivals : List Arrival) → entries_by (arrivals ++ []) ≡ entries_by arrivals ++ entries_by []
none_behind arrivals = ap entries_by (append-nil arrivals) ∙ sym (append-nil (entries_by arrivals))

-- What follows the same is the same.
rest_same : {X : Type 0} (xs ys zs : List X) → xs ++ ys ≡ xs ++ zs → ys ≡ zs
rest_same [] ys zs is = is
rest_same (x ∷ xs) ys zs is = let rest : xs ++ ys ≡ xs ++ zs = cc in rest_same xs ys zs rest

module _ (came : List ReceivedMessage) (number at : ℕ) (r : ReadsLast came number at) where
  -- The messages that are read are those from the place on.
  group_is : arrivals_in (drop at came) ≡ r.group
  group_is =
      let parted = sym (map-append arrival_of (take at came) (drop at came))
      ∙ ap arrivals_in (take-append-drop at came) in
      rest_same (arrivals_in (take at came)) (arrivals_in (drop at came)) r.group (parted ∙ r.whole)

  have_one : HaveOne number (arrivals_in (drop at came))
  have_one = subst (HaveOne number) (sym group_is) r.numbers

  -- All messages are read.
  pub all_read : at ≡ 0 → 0 < length came → IsLastGroup came 0
  all_read is some = record {
    number = number;
    within = some;
    have = subst (λ n. HaveOne number (arrivals_in (drop n came))) is have_one;
    parted = refl;
  }

  module _ (before : ReceivedMessage) (some : 0 < at) (within : at ≤ length came) (is : before ≡ get_or came
      (at - 1) before) where
    split : arrivals_in (take at came) ≡ arrivals_in (take (at - 1) came) ++ arrival_of before ∷ []
    split =
        let back : at ≡ at - 1 + 1 = omega (arith, some) in
        ap (λ n. arrivals_in (take n came)) back
        ∙ ap arrivals_in (up_to_place came (at - 1) before (omega (arith, some, within)) is)
        ∙ map-append arrival_of (take (at - 1) came) (before ∷ [])

    -- A message with another number comes before.
    pub last_read : at < length came → before.message.now.number ≢ number → IsLastGroup came at
    last_read less apart = record {
      number = number;
      within = less;
      have = have_one;
      parted = ap entries_by r.whole ∙ ap (λ l. entries_by (l ++ r.group)) split ∙ by_group r.group r.numbers
          ∙ ap (λ l. entries_by l ++ entries_by r.group) (sym split)
          ∙ ap (λ l. entries_by (arrivals_in (take at came)) ++ entries_by l) (sym group_is);
    }
      where
        by_group : (group : List Arrival) → HaveOne number group
            → entries_by ((arrivals_in (take (at - 1) came) ++ arrival_of before ∷ []) ++ group)
            ≡ entries_by (arrivals_in (take (at - 1) came) ++ arrival_of before ∷ []) ++ entries_by group
        by_group [] numbers = none_behind (arrivals_in (take (at - 1) came) ++ arrival_of before ∷ [])
        by_group (next ∷ group) (here, numbers) =
            parted (arrivals_in (take (at - 1) came)) (arrival_of before) next group (λ same. apart (same ∙ here))

-- The entry that is first among those of one number is the only one.
pub the_only_one : (number : ℕ) (group : List Arrival) (entry : Entry) (later : List Entry) → HaveOne number group
    → entries_by group ≡ entry ∷ later → entries_by group ≡ entry ∷ []
the_only_one number [] entry later have is = cc
the_only_one number (first ∷ group) entry later have is =
    let one = one_entry number first group have in
    let both : entry ∷ later ≡ one.0 ∷ [] = sym is ∙ one.1 in
    let same : entry ≡ one.0 = cc in
    one.1 ∙ ap (λ e. e ∷ []) (sym same)

-- Without an entry of the last number there is none at all.
pub last_none : (came : List ReceivedMessage) (front : ℕ) → IsLastGroup came front
    → entries_by (arrivals_in (drop front came)) ≡ [] → entries_by (arrivals_in came) ≡ []
last_none came front g none = by_group (drop front came) refl
  where
    by_group : (group : List ReceivedMessage) → drop front came ≡ group → entries_by (arrivals_in came) ≡ []
    by_group [] is =
        let long = sym (length-drop front came) ∙ ap length is in
        let within = g.within in
        absurd (omega (arith, long, within))
    by_group (one ∷ group) is =
        let found = one_entry g.number (arrival_of one) (arrivals_in group)
        (subst (λ l. HaveOne g.number (arrivals_in l)) is g.have) in
        let never : found.0 ∷ [] ≡ [] = sym found.1 ∙ ap (λ l. entries_by (arrivals_in l)) (sym is) ∙ none in
        cc

-- The messages of the last number, and their entry.
module _ (came : List ReceivedMessage) (front : ℕ) (g : IsLastGroup came front) (entry : Entry) (later : List Entry)
    (is : entries_by (arrivals_in (drop front came)) ≡ entry ∷ later) where
  only : entries_by (arrivals_in (drop front came)) ≡ entry ∷ []
  only = the_only_one g.number (arrivals_in (drop front came)) entry later g.have is

  pub last_one : entries_by (arrivals_in came) ≡ entries_by (arrivals_in (take front came)) ++ entry ∷ []
  last_one = g.parted ∙ ap (λ l. entries_by (arrivals_in (take front came)) ++ l) only

  pub last_group : AreOfOne (arrivals_in (drop front came)) entry
  last_group = record {
    numbers = subst (λ n. HaveOne n (arrivals_in (drop front came)))
        (sym (number_of_first (arrivals_in (drop front came)) entry g.number g.have only)) g.have;
    one = only;
  }
