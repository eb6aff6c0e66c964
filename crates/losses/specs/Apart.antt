-- Stretches of a log that lie apart, in its order.
use Rattle.std.specs.Prelude.{ℕ, ◌≡◌, ◌≤◌, ◌+◌, ◌++◌, List, [], ◌∷◌}
use Rattle.retire.specs.declared.event.Event.{Event}
use Rattle.losses.specs.Parts.{LogPart, Events, Missing}

-- The numbers rise: the first is this one or above, and each of the others is above the one before it.
abbrev pub AreRising : ℕ → List ℕ → Type 0
AreRising from [] = Unit {0}
AreRising from (number ∷ numbers) = (from ≤ number) × AreRising (number + 1) numbers

-- The stretches among the parts come one after the other in the log, and no event is in two of them.
abbrev pub StandApart : List LogPart → List Event → Type 0
StandApart [] log = Unit {0}
StandApart (Missing count ∷ parts) log = StandApart parts log
StandApart (Events events ∷ parts) log =
    (before : List Event) × (after : List Event) × (log ≡ before ++ (events ++ after)) × StandApart parts after
