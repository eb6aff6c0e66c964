-- What of a packet's events is still to be handed out, as this crate's code holds it.
use Rattle.std.specs.Prelude.{◌≡◌, ℕ, zero, suc, ◌+◌, ◌-◌, ◌^◌, ◌<◌, ◌≤◌, Bool, List, [], ◌∷◌, ◌++◌, drop, length}
use Rattle.retire.specs.declared.event.Event.{Event}
use Rattle.rvclass.specs.Words.{Words}
use Rattle.decoder.specs.Walk.{End}
use Rattle.decoder.specs.steps.WalkSteps.{Move, Stop, Last, On, IsCourse, advance}
use Rattle.decoder.specs.steps.Walks.{event_of, goal_end, Carries}
use Rattle.decoder.specs.declared.rest.Rest.{Rest}
use Rattle.decoder.specs.declared.rest.Rest.TheVariants as rest
use Rattle.decoder.specs.declared.rest.WalkRest.{WalkRest}
use Rattle.decoder.specs.declared.stepping.Here.{Here}
use Rattle.decoder.specs.declared.added_events.AddedEvents.{AddedEvents}
use Rattle.decoder.specs.declared.added_events.AddedEvents.TheVariants as stretch

-- The retirements from a step on, where those after it go on so.
abbrev pub step_then : Move → (Event → List Bool → List Event) → List Event
step_then Stop later = []
step_then (Last event) later = event ∷ []
step_then (On event left) later = event ∷ later event left

-- The first `count` retirements of the walk from this event with these outcomes to this end. Where it has fewer, those
-- that it has.
unfoldable pub first_steps : Words → ℕ → Event → List Bool → End → List Event
first_steps words zero event taken end = []
first_steps words (suc count) event taken end =
    step_then (advance words event taken end) (λ next left. first_steps words count next left end)

-- The retirements that a walk is still to give.
abbrev pub walk_events : Words → WalkRest → List Event
walk_events words walk =
    first_steps words walk.count (event_of walk.here) (drop walk.used walk.course.outcomes) (goal_end walk.course.goal)

-- The events that are still to be handed out of a stretch.
abbrev pub rest_events : Words → Rest → List Event
rest_events words rest.Nothing = []
rest_events words (rest.One event) = event ∷ []
rest_events words (rest.Two trap event) = trap ∷ event ∷ []
rest_events words (rest.Walk walk) = walk_events words walk

-- The walk from here has `count` retirements at least. Where one is to come, where this one leads is kept.
pub record GoesOnFor (words : Words) (count : ℕ) (here : Here) (left : List Bool) (end : End) : Type 0 where
  pub counted : length (first_steps words count (event_of here) left end) ≡ count
  pub carries : 0 < count → Carries words here

-- The walk has as many retirements as it says, and the number of its outcomes is kept with them.
abbrev pub IsWalkRest : Words → WalkRest → Type 0
IsWalkRest words walk =
    IsCourse walk.course × GoesOnFor words walk.count walk.here (drop walk.used walk.course.outcomes)
    (goal_end walk.course.goal)

-- A walk among what is left has as many retirements as it says.
abbrev pub IsRest : Words → Rest → Type 0
IsRest words (rest.Walk walk) = IsWalkRest words walk
IsRest words other = Unit {0}

-- Of both stretches, what is left is as it says, and it is not more than can be counted.
pub record AreRests (words : Words) (first second : Rest) : Type 0 where
  pub of_first : IsRest words first
  pub of_second : IsRest words second
  pub few : length (rest_events words first) + length (rest_events words second) ≤ 2 ^ 32

-- All of a stretch is left.
abbrev pub rest_of : AddedEvents → Rest
rest_of stretch.Nothing = rest.Nothing
rest_of (stretch.One event) = rest.One event
rest_of (stretch.Two trap event) = rest.Two trap event
rest_of (stretch.Walk walk) = rest.Walk (record {
  here = walk.from;
  course = record { outcomes = walk.outcomes; count = length walk.outcomes; goal = walk.goal };
  used = 0;
  count = walk.walked.count;
})

-- The number of the outcomes of a walk is kept with them.
abbrev pub HasCourse : Rest → Type 0
HasCourse (rest.Walk walk) = IsCourse walk.course
HasCourse other = Unit {0}

-- The first `done` retirements of a walk of `count` were appended, and it goes on from here with these outcomes.
pub record Handing (words : Words) (end : End) (old whole : List Event) (count done : ℕ) (here : Here)
    (left : List Bool) (new : List Event) : Type 0 where
  pub made : List Event
  pub joined : new ≡ old ++ made
  pub counted : length made ≡ done
  pub later : whole ≡ made ++ first_steps words (count - done) (event_of here) left end
  pub goes : GoesOnFor words (count - done) here left end
