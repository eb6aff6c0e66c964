-- The numbers of entries are those of messages.
use Rattle.std.proofs.Common.{◌<◌, ◌==◌, Bool, true, false, List, [], ◌∷◌, subst, sym}
use Rattle.std.proofs.lemmas.List.Elements.{All-cons, All-head, All-nil, All-tail}
use Rattle.message.specs.Harts.{end_of_numbers}
use Rattle.salvaging.specs.Entries.{Entry, entry_number}
use Rattle.salvaging.specs.steps.Arrivals.{Arrival, HaveNumbers}
use Rattle.salvaging.specs.steps.Grouping.{AreSmall, entries_by, entries_on, entry_by, entry_with, join_or_begin}
use Rattle.salvaging.proofs.OneMore.{number_kept}

abbrev IsSmall : Entry → Type 0
IsSmall entry = entry_number entry < end_of_numbers

abbrev HasNumber : Arrival → Type 0
HasNumber one = one.message.number < end_of_numbers

by_test : (same : Bool) (entry : Entry) (before next : Arrival) (arrivals : List Arrival) → IsSmall entry
    → (IsSmall (entry_with entry before next) → AreSmall (entries_on (entry_with entry before next) next arrivals))
    → AreSmall (entries_on (entry_by next) next arrivals)
    → AreSmall (join_or_begin same entry before next (λ later. entries_on later next arrivals))
by_test true entry before next arrivals small same new =
    same (subst (λ n. n < end_of_numbers) (sym (number_kept entry before next)) small)
by_test false entry before next arrivals small same new =
    All-cons IsSmall entry (entries_on (entry_by next) next arrivals) small new

entries_on_small : (entry : Entry) (before : Arrival) (arrivals : List Arrival) → IsSmall entry
    → HaveNumbers arrivals → AreSmall (entries_on entry before arrivals)
entries_on_small entry before [] small have = All-cons IsSmall entry [] small (All-nil IsSmall)
entries_on_small entry before (next ∷ arrivals) small have =
    let later = All-tail HasNumber next arrivals have in
    by_test (entry_number entry == next.message.number) entry before next arrivals small
    (λ more. entries_on_small (entry_with entry before next) next arrivals more later)
    (entries_on_small (entry_by next) next arrivals (All-head HasNumber next arrivals have) later)

pub entries_small : (arrivals : List Arrival) → HaveNumbers arrivals → AreSmall (entries_by arrivals)
entries_small [] have = All-nil IsSmall
entries_small (first ∷ arrivals) have =
    entries_on_small (entry_by first) first arrivals (All-head HasNumber first arrivals have)
    (All-tail HasNumber first arrivals have)
