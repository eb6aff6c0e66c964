-- The last event of a stretch, its place, and how many events there are.
use Rattle.std.proofs.Common.{◌≡◌, ℕ, List, [], ◌∷◌, ◌++◌, length, Option, Some, refl, sym, ap, ◌∙◌}
use Rattle.std.specs.List.{last_or}
use Rattle.retire.specs.Events.{place}
use Rattle.retire.specs.declared.event.Event.{Event}
use Rattle.rvclass.specs.Words.{Words}
use Rattle.legalpath.specs.LastPlace.{last_place}
use Rattle.legalpath.specs.Legal.{FollowOn}
use Rattle.decoder.specs.steps.Stretches.{stretch_count, stretch_last, stretch_place, Gives, RightBefore}
use Rattle.decoder.specs.steps.Walks.{event_of}
use Rattle.decoder.specs.declared.added_events.AddedEvents.{AddedEvents}
use Rattle.decoder.specs.declared.added_events.AddedEvents.TheVariants.{Nothing, One, Two, Walk}

pub last_or-last : {A : Type 0} (before : Option A) (front : List A) (last : A) →
    last_or before (front ++ last ∷ []) ≡ Some last
last_or-last before [] last = refl
last_or-last before (first ∷ front) last = last_or-last (Some first) front last

pub last_place-last : (at : ℕ) (front : List Event) (last : Event) → last_place at (front ++ last ∷ []) ≡ place last
last_place-last at [] last = refl
last_place-last at (event ∷ front) last = last_place-last (place event) front last

-- The event that a walk ends with is the last of its events.
walk_last : (from last end : Event) (front events : List Event) → events ≡ front ++ last ∷ [] →
    last_or (Some from) events ≡ Some end → last ≡ end
walk_last from last end front events whole is =
    let one : Some last ≡ Some end = sym (ap (last_or (Some from)) whole ∙ last_or-last (Some from) front last) ∙ is in
    cc

pub stretch_count-gives : (words : Words) (stretch : AddedEvents) (events : List Event) → Gives words stretch events →
    stretch_count stretch ≡ length events
stretch_count-gives words Nothing events gives = ap length (sym gives)
stretch_count-gives words (One event) events gives = ap length (sym gives)
stretch_count-gives words (Two trap event) events gives = ap length (sym gives)
stretch_count-gives words (Walk walk) events gives = gives.2

pub stretch_last-gives : (words : Words) (before : Option Event) (stretch : AddedEvents) (events : List Event) →
    Gives words stretch events → stretch_last before stretch ≡ last_or before events
stretch_last-gives words before Nothing events gives = ap (last_or before) (sym gives)
stretch_last-gives words before (One event) events gives = ap (last_or before) (sym gives)
stretch_last-gives words before (Two trap event) events gives = ap (last_or before) (sym gives)
stretch_last-gives words before (Walk walk) events gives =
    let fits = gives.1.fits in
    let same = walk_last (event_of walk.from) fits.last walk.walked.last fits.front events fits.whole gives.3 in
    ap Some (sym same) ∙ sym (ap (last_or before) fits.whole ∙ last_or-last before fits.front fits.last)

pub stretch_place-gives : (words : Words) (at : ℕ) (stretch : AddedEvents) (events : List Event) →
    Gives words stretch events → stretch_place at stretch ≡ last_place at events
stretch_place-gives words at Nothing events gives = ap (last_place at) (sym gives)
stretch_place-gives words at (One event) events gives = ap (last_place at) (sym gives)
stretch_place-gives words at (Two trap event) events gives = ap (last_place at) (sym gives)
stretch_place-gives words at (Walk walk) events gives =
    let fits = gives.1.fits in
    let same = walk_last (event_of walk.from) fits.last walk.walked.last fits.front events fits.whole gives.3 in
    ap place (sym same) ∙ sym (ap (last_place at) fits.whole ∙ last_place-last at fits.front fits.last)

-- What follows on a right event ends with a right one.
pub right_after : (words : Words) (before : Option Event) (events : List Event) → RightBefore words before →
    FollowOn words before events → RightBefore words (last_or before events)
right_after words before [] right follows = right
right_after words before (event ∷ events) right follows = right_after words (Some event) events follows.0 follows.2
