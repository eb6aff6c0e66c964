-- Stretches of events, one event more at the end.
use Rattle.std.proofs.Common.{◌≡◌, Bool, true, false, List, [], ◌∷◌, ◌++◌, Some, ap, ◌∙◌}
use Rattle.std.specs.List.{last_or, AllByRecursion}
use Rattle.retire.specs.declared.event.Event.{Event}
use Rattle.legalpath.specs.NoneOf.{NoneOf}
use Rattle.legalpath.specs.OnlyLast.{OnlyLast}

-- What holds of all events of a stretch and of one more holds of all of them.
pub all-snoc : (Holds : Event → Type 0) (front : List Event) (last : Event) → AllByRecursion Holds front → Holds last
    → AllByRecursion Holds (front ++ last ∷ [])
all-snoc Holds [] last all one = (one, tt)
all-snoc Holds (event ∷ front) last all one = (all.0, all-snoc Holds front last all.1 one)

-- A stretch stands last where its last event stands.
-- No event of the stretch but the last may pass the test.
abbrev pub NoneEarly : (Event → Bool) → List Event → Type 0
NoneEarly test [] = Unit {0}
NoneEarly test (event ∷ []) = Unit {0}
NoneEarly test (event ∷ next ∷ stretch) = (test event ≡ false) × NoneEarly test (next ∷ stretch)

-- Where the last event does not pass it either, none does.
pub none_early-none : (test : Event → Bool) (first : Event) (front : List Event) (last : Event)
    → NoneEarly test (first ∷ front) → last_or (Some first) front ≡ Some last → test last ≡ false
    → NoneOf test (first ∷ front)
none_early-none test first [] last early is fails = let same : first ≡ last = cc in (ap test same ∙ fails, tt)
none_early-none test first (event ∷ front) last early is fails =
    (early.0, none_early-none test event front last early.1 is fails)

-- Where the last event passes it, it is the only one.
pub none_early-last : (test : Event → Bool) (first : Event) (front : List Event) (last : Event)
    → NoneEarly test (first ∷ front) → last_or (Some first) front ≡ Some last → test last ≡ true
    → OnlyLast test (first ∷ front)
none_early-last test first [] last early is passes = let same : first ≡ last = cc in ap test same ∙ passes
none_early-last test first (event ∷ front) last early is passes =
    (early.0, none_early-last test event front last early.1 is passes)

-- Where no event passes it, one more may.
pub none_early-snoc : (test : Event → Bool) (first : Event) (front : List Event) (last : Event)
    → NoneOf test (first ∷ front) → NoneEarly test (first ∷ front ++ last ∷ [])
none_early-snoc test first [] last none = (none.0, tt)
none_early-snoc test first (event ∷ front) last none = (none.0, none_early-snoc test event front last none.1)
