-- The entries of messages of one number, and of others after them.
use Rattle.std.proofs.Common.{◌≡◌, ◌≢◌, ℕ, ◌++◌, ◌==◌, Bool, true, false, List, [], ◌∷◌, refl, sym, ap, subst, ◌∙◌}
use Rattle.std.proofs.lemmas.List.{append-nil}
use Rattle.salvaging.specs.Entries.{Entry, entry_number}
use Rattle.salvaging.specs.steps.Arrivals.{Arrival}
use Rattle.salvaging.specs.steps.Grouping.{AreOfOne, HaveOne, entries_by, entries_on, entry_by, entry_with}
use Rattle.salvaging.specs.steps.Grouping.{join_or_begin}
use Rattle.salvaging.proofs.EntriesParted.{parted}
use Rattle.salvaging.proofs.OneMore.{number_kept}

-- The first entry has the number of the first message.
pub record BeginsWithNumber (entries : List Entry) (number : ℕ) : Type 0 where
  pub entry : Entry
  pub later : List Entry
  pub whole : entries ≡ entry ∷ later
  pub number_is : entry_number entry ≡ number

on_first : (entry : Entry) (before : Arrival) (arrivals : List Arrival)
    → BeginsWithNumber (entries_on entry before arrivals) (entry_number entry)
on_first entry before [] = record { entry = entry; later = []; whole = refl; number_is = refl }
on_first entry before (next ∷ arrivals) =
    by_test (entry_number entry == next.message.number) (on_first (entry_with entry before next) next arrivals)
  where
    by_test : (same : Bool) → BeginsWithNumber (entries_on (entry_with entry before next) next arrivals)
        (entry_number (entry_with entry before next))
        → BeginsWithNumber (join_or_begin same entry before next (λ later. entries_on later next arrivals))
        (entry_number entry)
    by_test true later =
        subst (BeginsWithNumber (entries_on (entry_with entry before next) next arrivals))
        (number_kept entry before next) later
    by_test false later = record { entry = entry; later = _; whole = refl; number_is = refl }

pub begins_with_first : (first : Arrival) (arrivals : List Arrival)
    → BeginsWithNumber (entries_by (first ∷ arrivals)) first.message.number
begins_with_first first arrivals = on_first (entry_by first) first arrivals

pub number_of_first : (group : List Arrival) (entry : Entry) (number : ℕ) → HaveOne number group
    → entries_by group ≡ entry ∷ [] → entry_number entry ≡ number
number_of_first [] entry number have is = cc
number_of_first (first ∷ group) entry number (here, have) is =
    let begins = begins_with_first first group in
    let both : begins.entry ∷ begins.later ≡ entry ∷ [] = sym begins.whole ∙ is in
    let same : begins.entry ≡ entry = cc in
    ap entry_number (sym same) ∙ begins.number_is ∙ here

-- A list with an item has a last one.
pub record EndsWithOne (arrivals : List Arrival) : Type 0 where
  pub front : List Arrival
  pub last : Arrival
  pub whole : arrivals ≡ front ++ last ∷ []

ends_with_one : (first : Arrival) (arrivals : List Arrival) → EndsWithOne (first ∷ arrivals)
ends_with_one first [] = record { front = []; last = first; whole = refl }
ends_with_one first (next ∷ arrivals) =
    let later = ends_with_one next arrivals in
    record { front = first ∷ later.front; last = later.last; whole = ap (λ l. first ∷ l) later.whole }

last_number : (number : ℕ) (front : List Arrival) (last : Arrival) → HaveOne number (front ++ last ∷ [])
    → last.message.number ≡ number
last_number number [] last (here, have) = here
last_number number (first ∷ front) last (here, have) = last_number number front last have

-- Messages of one number before others, whose first has another number.
pub group_parted : (group tail : List Arrival) (entry : Entry) → AreOfOne group entry
    → ((next : Arrival) (more : List Arrival) → tail ≡ next ∷ more → entry_number entry ≢ next.message.number)
    → entries_by (group ++ tail) ≡ entry ∷ entries_by tail
group_parted [] tail entry of apart = let none = of.one in cc
group_parted (first ∷ group) [] entry of apart = ap entries_by (append-nil (first ∷ group)) ∙ of.one
group_parted (first ∷ group) (next ∷ tail) entry of apart =
    ap (λ l. entries_by (l ++ next ∷ tail)) ends.whole
    ∙ parted ends.front ends.last next tail
    (λ same. apart next tail refl (sym (last_number (entry_number entry) ends.front ends.last
    (subst (HaveOne (entry_number entry)) ends.whole of.numbers)) ∙ same))
    ∙ ap (λ l. entries_by l ++ entries_by (next ∷ tail)) (sym ends.whole)
    ∙ ap (λ l. l ++ entries_by (next ∷ tail)) of.one
  where
    ends : EndsWithOne (first ∷ group)
    ends = ends_with_one first group
