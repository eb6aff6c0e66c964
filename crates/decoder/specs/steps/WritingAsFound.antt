-- How this crate's code writes a walk as it finds it.
use Rattle.std.specs.Prelude.{◌≡◌, ℕ, ◌-◌, ◌≤◌, Bool, List, ◌++◌, length, Option, Some, None, Result, Ok, Err}
use Rattle.retire.specs.declared.event.Event.{Event}
use Rattle.rvclass.specs.Words.{Words}
use Rattle.decoder.specs.Walk.{End}
use Rattle.decoder.specs.steps.WalkSteps.{walk_within}
use Rattle.decoder.specs.steps.Walks.{Finds, FindsNone}
use Rattle.decoder.specs.declared.fault.DecodeFault.{DecodeFault}
use Rattle.decoder.specs.declared.stepping.Here.{Here}
use Rattle.decoder.specs.declared.walking.Progress.{Progress}
use Rattle.decoder.specs.declared.walking.Progress.TheVariants.{Written, Pending}
use Rattle.decoder.specs.declared.walking.Walked.{Walked}

-- Where events are written, those ahead of them are written too, and `Added` holds. Where they are pending, `Same`
-- holds.
abbrev pub AddsAs : Progress → Progress → Type 0 → Type 0 → Type 0
AddsAs ahead Pending Added Same = Same
AddsAs Written Written Added Same = Added
AddsAs Pending Written Added Same = ⊥

-- The code returns a walk with this summary, or a fault where there is none. Where it returns neither, this says
-- nothing.
abbrev pub ReturnsSummary : Option (ℕ × Option Event) → Result (Option Walked) DecodeFault → Type 0
ReturnsSummary summary (Ok (Some walked)) = Some (walked.count, Some walked.last) ≡ summary
ReturnsSummary summary (Ok None) = Unit {0}
ReturnsSummary summary (Err fault) = None ≡ summary

-- Where the code returns a walk, it is written, and `Added` holds.
abbrev pub AddsReturned : Type 0 → Result (Option Walked) DecodeFault → Type 0
AddsReturned Added (Ok (Some walked)) = Added × (walked.progress ≡ Written)
AddsReturned Added other = Unit {0}

-- Where the code returns no walk since the capacity is too small, the list is as it was.
abbrev pub KeptWithoutRoom : List Event → List Event → Result (Option Walked) DecodeFault → Type 0
KeptWithoutRoom old new (Ok None) = new ≡ old
KeptWithoutRoom old new other = Unit {0}

-- There is the walk that the code returns.
abbrev pub FindsReturned : Words → Here → List Bool → End → Result (Option Walked) DecodeFault → Type 0
FindsReturned words from taken end (Ok (Some walked)) = Finds words from taken end walked
FindsReturned words from taken end other = Unit {0}

-- Where the code returns a fault, there is no walk.
abbrev pub NoneAtFault : Words → Here → List Bool → End → Result (Option Walked) DecodeFault → Type 0
NoneAtFault words from taken end (Err fault) = FindsNone words from taken end
NoneAtFault words from taken end (Ok other) = Unit {0}

-- The walk that the code returns has at most this many retirements.
abbrev pub ShortReturned : ℕ → Result (Option Walked) DecodeFault → Type 0
ShortReturned limit (Ok (Some walked)) = walked.count ≤ limit
ShortReturned limit other = Unit {0}

-- These events and then the walk, if there is one.
abbrev pub events_then : List Event → Option (List Event) → Option (List Event)
events_then made None = None
events_then made (Some walk) = Some (made ++ walk)

-- The first `done` retirements of a walk were written, and it goes on from here with these outcomes.
pub record Writing (words : Words) (limit : ℕ) (from : Event) (taken : List Bool) (end : End) (old : List Event)
    (done : ℕ) (here : Event) (left : List Bool) (new : List Event) : Type 0 where
  pub made : List Event
  pub joined : new ≡ old ++ made
  pub counted : length made ≡ done
  pub leads : walk_within words limit from taken end ≡ events_then made (walk_within words (limit - done) here left end)
