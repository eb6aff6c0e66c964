-- How this crate's code goes along a walk that was measured.
use Rattle.std.specs.Prelude.{◌≡◌, ℕ, ◌+◌, ◌≤◌, Bool, true, false, List, [], ◌∷◌, ◌++◌, drop, length, Option, Some}
use Rattle.std.specs.Prelude.{None}
use Rattle.retire.specs.declared.event.Event.{Event}
use Rattle.rvclass.specs.Words.{Words}
use Rattle.decoder.specs.Walk.{End}
use Rattle.decoder.specs.steps.WalkSteps.{Move, Stop, Last, On, walk_within}
use Rattle.decoder.specs.steps.Walks.{event_of, Carries}
use Rattle.decoder.specs.declared.stepping.Here.{Here}

-- Where the code returned true and there is such a retirement, it is the one that was reached. The outcomes that it
-- leaves are then those that are not used, and where it leads is kept. Where the code returned false, there is none.
abbrev pub Reaches : Words → List Bool → Here → ℕ → Bool → Option (Event × List Bool) → Type 0
Reaches words taken here used true None = Unit {0}
Reaches words taken here used true (Some (event, left)) =
    (event_of here ≡ event) × (drop used taken ≡ left) × Carries words here
Reaches words taken here used false None = Unit {0}
Reaches words taken here used false (Some (event, left)) = ⊥

-- Where the code returned true and the step leads to a retirement, it is the one that was reached. Where the walk goes
-- on from it, the outcomes that are left are those that are not used, and where it leads is kept. Where the code
-- returned false, the step leads to no retirement.
abbrev pub Retraces : Words → List Bool → Here → ℕ → Bool → Move → Type 0
Retraces words taken here used true Stop = Unit {0}
Retraces words taken here used true (Last event) = event_of here ≡ event
Retraces words taken here used true (On event left) =
    (event_of here ≡ event) × (drop used taken ≡ left) × Carries words here
Retraces words taken here used false Stop = Unit {0}
Retraces words taken here used false (Last event) = ⊥
Retraces words taken here used false (On event left) = ⊥

-- There is a walk of at most this many steps with `count` retirements, and the capacity is enough for it after `len`
-- events.
abbrev pub HasRoomWithin : Words → ℕ → Event → List Bool → End → ℕ → ℕ → ℕ → Type 0
HasRoomWithin words steps from taken end count len capacity =
    (walk : List Event) × (walk_within words steps from taken end ≡ Some walk) × (count ≡ length walk) ×
    (len + length walk ≤ capacity)

-- The walk of at most this many steps was added.
abbrev pub AddsWithin : Words → ℕ → Event → List Bool → End → List Event → List Event → Type 0
AddsWithin words steps from taken end old new =
    (walk : List Event) × (walk_within words steps from taken end ≡ Some walk) × (new ≡ old ++ walk)

-- These retirements are the walk from here, or there are none.
abbrev pub IsAhead : Words → Here → List Bool → End → List Event → Type 0
IsAhead words here left end [] = Unit {0}
IsAhead words here left end (event ∷ back) =
    Carries words here × (steps : ℕ) × (walk_within words steps (event_of here) left end ≡ Some (event ∷ back))

-- The first retirements of the walk were added, `ahead` of them are left, and the capacity is enough for those.
pub record Adding (words : Words) (steps : ℕ) (from : Event) (taken : List Bool) (end : End) (old : List Event)
    (ahead : ℕ) (here : Here) (left : List Bool) (new : List Event) (len capacity : ℕ) : Type 0 where
  pub whole : List Event
  pub back : List Event
  pub found : walk_within words steps from taken end ≡ Some whole
  pub later : IsAhead words here left end back
  pub counted : ahead ≡ length back
  pub joined : old ++ whole ≡ new ++ back
  pub room : len + length back ≤ capacity
