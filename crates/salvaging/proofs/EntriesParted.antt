-- The entries of messages in the order of their numbers, parted between two numbers.
use Rattle.std.proofs.Common.{◌≡◌, ◌≢◌, ℕ, ◌++◌, ◌==◌, Bool, true, false, List, [], ◌∷◌, refl, sym, ap, subst, ◌∙◌}
use Rattle.std.proofs.lemmas.Bool.{eq-eqb, eqb-true, ne_eqb}
use Rattle.salvaging.specs.Entries.{Entry, entry_number}
use Rattle.salvaging.specs.steps.Arrivals.{Arrival}
use Rattle.salvaging.specs.steps.Grouping.{HaveOne, entries_by, entries_on, entry_by, entry_with, join_or_begin}
use Rattle.salvaging.proofs.OneMore.{number_kept}

-- The next message has the number of the entry, and joins it.
joins : (entry : Entry) (before next : Arrival) (arrivals : List Arrival) → entry_number entry ≡ next.message.number
    → entries_on entry before (next ∷ arrivals) ≡ entries_on (entry_with entry before next) next arrivals
joins entry before next arrivals same =
    ap (λ b. join_or_begin b entry before next (λ later. entries_on later next arrivals))
    (eq-eqb (entry_number entry) next.message.number same)

-- It has another number, and begins the next entry.
begins : (entry : Entry) (before next : Arrival) (arrivals : List Arrival)
    → entry_number entry ≢ next.message.number
    → entries_on entry before (next ∷ arrivals) ≡ entry ∷ entries_by (next ∷ arrivals)
begins entry before next arrivals apart =
    ap (λ b. join_or_begin b entry before next (λ later. entries_on later next arrivals))
    (ne_eqb (entry_number entry) next.message.number apart)

-- Two lists of entries that go on in the same way.
parted_one : (same : Bool) (entry : Entry) (before one : Arrival) (arrivals more : List Arrival) (behind : List Entry)
    → (same ≡ true → entries_on (entry_with entry before one) one arrivals
    ≡ entries_on (entry_with entry before one) one more ++ behind)
    → entries_on (entry_by one) one arrivals ≡ entries_on (entry_by one) one more ++ behind
    → join_or_begin same entry before one (λ later. entries_on later one arrivals)
    ≡ join_or_begin same entry before one (λ later. entries_on later one more) ++ behind
parted_one true entry before one arrivals more behind joined begun = joined refl
parted_one false entry before one arrivals more behind joined begun = ap (λ l. entry ∷ l) begun

-- Between two messages with different numbers the entries part.
on_parted : (entry : Entry) (earlier : Arrival) (front : List Arrival) (before next : Arrival) (arrivals : List Arrival)
    → before.message.number ≢ next.message.number
    → entries_on entry earlier ((front ++ before ∷ []) ++ next ∷ arrivals)
    ≡ entries_on entry earlier (front ++ before ∷ []) ++ entries_by (next ∷ arrivals)
on_parted entry earlier [] before next arrivals apart =
    parted_one (entry_number entry == before.message.number) entry earlier before (next ∷ arrivals) []
    (entries_by (next ∷ arrivals))
    (λ same. begins (entry_with entry earlier before) before next arrivals
    (λ numbers. apart (sym (eqb-true (entry_number entry) before.message.number same)
    ∙ sym (number_kept entry earlier before) ∙ numbers)))
    (begins (entry_by before) before next arrivals apart)
on_parted entry earlier (first ∷ front) before next arrivals apart =
    parted_one (entry_number entry == first.message.number) entry earlier first
    ((front ++ before ∷ []) ++ next ∷ arrivals) (front ++ before ∷ []) (entries_by (next ∷ arrivals))
    (λ same. on_parted (entry_with entry earlier first) first front before next arrivals apart)
    (on_parted (entry_by first) first front before next arrivals apart)

pub parted : (front : List Arrival) (before next : Arrival) (arrivals : List Arrival)
    → before.message.number ≢ next.message.number
    → entries_by ((front ++ before ∷ []) ++ next ∷ arrivals)
    ≡ entries_by (front ++ before ∷ []) ++ entries_by (next ∷ arrivals)
parted [] before next arrivals apart = begins (entry_by before) before next arrivals apart
parted (first ∷ front) before next arrivals apart =
    on_parted (entry_by first) first front before next arrivals apart

-- Further messages with the number of an entry leave it one entry.
pub one_entry_on : (entry : Entry) (before : Arrival) (arrivals : List Arrival) → HaveOne (entry_number entry) arrivals
    → (one : Entry) × (entries_on entry before arrivals ≡ one ∷ [])
one_entry_on entry before [] have = (entry, refl)
one_entry_on entry before (next ∷ arrivals) (here, have) =
    let more = one_entry_on (entry_with entry before next) next arrivals
    (subst (λ n. HaveOne n arrivals) (sym (number_kept entry before next)) have) in
    (more.0, joins entry before next arrivals (sym here) ∙ more.1)

-- Messages of one number have one entry.
pub one_entry : (number : ℕ) (first : Arrival) (arrivals : List Arrival) → HaveOne number (first ∷ arrivals)
    → (one : Entry) × (entries_by (first ∷ arrivals) ≡ one ∷ [])
one_entry number first arrivals (here, have) =
    one_entry_on (entry_by first) first arrivals (subst (λ n. HaveOne n arrivals) (sym here) have)
