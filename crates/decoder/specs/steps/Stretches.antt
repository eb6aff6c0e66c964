-- The events that a packet adds to a log, as this crate's code holds them.
use Rattle.std.specs.Prelude.{◌≡◌, ℕ, ◌+◌, ◌≤◌, List, [], ◌∷◌, ◌++◌, length, Option, Some, None}
use Rattle.std.specs.List.{last_or}
use Rattle.std.specs.Vec.{vec_capacity}
use Rattle.std.specs.declared.vec.Vec.{Vec}
use Rattle.retire.specs.Events.{place}
use Rattle.retire.specs.declared.event.Event.{Event}
use Rattle.rvclass.specs.Words.{Words}
use Rattle.legalpath.specs.Legal.{FollowOn}
use Rattle.legalpath.specs.Right.{Right}
use Rattle.decoder.specs.steps.Faults.{IsOnTheWay}
use Rattle.decoder.specs.steps.Walks.{event_of, goal_end, IsHere, WalksOn}
use Rattle.decoder.specs.declared.fault.DecodeFault.{DecodeFault}
use Rattle.decoder.specs.declared.added_events.AddedEvents.{AddedEvents}
use Rattle.decoder.specs.declared.added_events.AddedEvents.TheVariants.{Nothing, One, Two, Walk}
use Rattle.decoder.specs.declared.walking.Progress.{Progress}
use Rattle.decoder.specs.declared.walking.Progress.TheVariants.{Written, Pending}
use Rattle.decoder.specs.steps.WritingAsFound.{AddsAs}

-- Events came behind those of a list, or none, within the capacity that it had.
abbrev pub IsGrown : {A : Type 0} → Vec Event A → Vec Event A → Type 0
IsGrown old new = ((rest : List Event) × (new.items ≡ old.items ++ rest)) × (vec_capacity new ≡ vec_capacity old)

-- How many events the stretch has.
abbrev pub stretch_count : AddedEvents → ℕ
stretch_count Nothing = 0
stretch_count (One event) = 1
stretch_count (Two trap event) = 2
stretch_count (Walk walk) = walk.walked.count

-- The last event after the stretch, where this was the last before it.
abbrev pub stretch_last : Option Event → AddedEvents → Option Event
stretch_last before Nothing = before
stretch_last before (One event) = Some event
stretch_last before (Two trap event) = Some event
stretch_last before (Walk walk) = Some walk.walked.last

-- The place of the last event of the stretch, or this one where it has none.
abbrev pub stretch_place : ℕ → AddedEvents → ℕ
stretch_place at Nothing = at
stretch_place at (One event) = place event
stretch_place at (Two trap event) = place event
stretch_place at (Walk walk) = place walk.walked.last

-- Whether the events of the stretch are in the list.
abbrev pub stretch_progress : AddedEvents → Progress
stretch_progress Nothing = Written
stretch_progress (One event) = Pending
stretch_progress (Two trap event) = Pending
stretch_progress (Walk walk) = walk.walked.progress

-- The stretch where it is to be written, or else nothing.
abbrev pub if_pending : Progress → AddedEvents → AddedEvents
if_pending Written stretch = Nothing
if_pending Pending stretch = stretch

-- What of the stretch is to be written.
abbrev pub left_of : AddedEvents → AddedEvents
left_of stretch = if_pending (stretch_progress stretch) stretch

-- These are the events of the stretch.
abbrev pub Gives : Words → AddedEvents → List Event → Type 0
Gives words Nothing events = events ≡ []
Gives words (One event) events = events ≡ event ∷ []
Gives words (Two trap event) events = events ≡ trap ∷ event ∷ []
Gives words (Walk walk) events =
    IsHere words walk.from × WalksOn words (event_of walk.from) walk.outcomes (goal_end walk.goal) events ×
    (walk.walked.count ≡ length events) ×
    (last_or (Some (event_of walk.from)) events ≡ Some walk.walked.last)

-- The event before, if there is one, is right.
abbrev pub RightBefore : Words → Option Event → Type 0
RightBefore words None = Unit {0}
RightBefore words (Some before) = Right words before

-- The stretch has events that fit and may follow the event before, where that is right.
pub record Suits (words : Words) (before : Option Event) (Fit : List Event → Type 0)
    (stretch : AddedEvents) : Type 0 where
  pub events : List Event
  pub gives : Gives words stretch events
  pub fits : RightBefore words before → Fit events × FollowOn words before events

-- These events fit and may follow the event before, where that is right.
abbrev pub SuitsOne : Words → Option Event → (List Event → Type 0) → List Event → Type 0
SuitsOne words before Fit events = RightBefore words before → Fit events × FollowOn words before events

-- No events fit and may follow the event before, where that is right. The fault is one of those on the way.
pub record SuitsNone (words : Words) (before : Option Event) (Fit : List Event → Type 0) (fault : DecodeFault) : Type
    0 where
  pub named : IsOnTheWay fault
  pub none : RightBefore words before → (events : List Event) → Fit events → FollowOn words before events → ⊥

-- The capacity is enough for the events of the stretch after `len` events.
abbrev pub HasRoomFor : Words → AddedEvents → ℕ → ℕ → Type 0
HasRoomFor words stretch len capacity =
    (events : List Event) × Gives words stretch events × (len + length events ≤ capacity)

-- The events of the stretch were added.
abbrev pub AddsStretch : Words → AddedEvents → List Event → List Event → Type 0
AddsStretch words stretch old new = (events : List Event) → Gives words stretch events → new ≡ old ++ events

-- A walk that is written was added, and then what comes before it is written too. Of any other stretch nothing was
-- added.
abbrev pub AddsSoFar : Words → Progress → AddedEvents → List Event → List Event → Type 0
AddsSoFar words ahead (Walk walk) old new =
    AddsAs ahead walk.walked.progress (AddsStretch words (Walk walk) old new) (new ≡ old)
AddsSoFar words ahead other old new = new ≡ old

-- Of two stretches, one after the other, what is written was added.
abbrev pub AddsBoth : Words → AddedEvents → AddedEvents → List Event → List Event → Type 0
AddsBoth words first second old new =
    (between : List Event) × AddsSoFar words Written first old between ×
    AddsSoFar words (stretch_progress first) second between new
