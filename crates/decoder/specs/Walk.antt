-- The retirements between one report and the next.
use Rattle.std.specs.Prelude.{◌≡◌, ℕ, Bool, true, List, [], ◌∷◌, ◌++◌, Option, Some, None}
use Rattle.std.specs.List.{AllByRecursion}
use Rattle.retire.specs.Events.{place, privilege, is_retirement, is_branch, outcomes}
use Rattle.retire.specs.declared.event.Event.{Event}
use Rattle.rvclass.specs.Words.{Words}
use Rattle.legalpath.specs.Discontinuity.{is_discontinuity}
use Rattle.legalpath.specs.Backward.{is_backward}
use Rattle.legalpath.specs.NoneOf.{NoneOf}
use Rattle.legalpath.specs.OnlyLast.{OnlyLast}

-- Where the retirements that a packet reports end: at a branch, as those of a full branch map do; at
-- this address; or at this address, the target of the first uninferable discontinuity on the way.
pub data End : Type 0 where
  AtBranch : End
  AtAddress : ℕ → End
  AtTarget : ℕ → End

-- The retirements `front` and then `last`, after the event `before`, end so: `last` is a branch, or is at the address.
-- No event ahead of `last` is an uninferable discontinuity. But where they end at a target, the event right before
-- `last` is one.
abbrev pub EndsAt : Words → End → Event → List Event → Event → Type 0
EndsAt words AtBranch before front last =
    NoneOf (is_discontinuity words) (before ∷ front) × (is_branch last ≡ true)
EndsAt words (AtAddress addr) before front last =
    NoneOf (is_discontinuity words) (before ∷ front) × (place last ≡ addr)
EndsAt words (AtTarget addr) before front last =
    OnlyLast (is_discontinuity words) (before ∷ front) × (place last ≡ addr)

-- The event is a retirement at this privilege.
abbrev pub RetiresAt : ℕ → Event → Type 0
RetiresAt priv event = (is_retirement event ≡ true) × (privilege event ≡ priv)

-- A walk from this event, which is a retirement: one or more retirements at its privilege. Their branches have these
-- outcomes, none but the last of them is a backward jump, and they end so.
pub record IsWalk (words : Words) (before : Event) (taken : List Bool) (end : End) (walk : List Event) : Type 0 where
  pub front : List Event
  pub last : Event
  pub whole : walk ≡ front ++ last ∷ []
  pub retirements : AllByRecursion (RetiresAt (privilege before)) (before ∷ walk)
  pub branches : outcomes walk ≡ taken
  pub forward : NoneOf (is_backward words) front
  pub ends : EndsAt words end before front last

-- A walk from the event before. Where there is none before, there is no walk.
abbrev pub IsWalkFrom : Words → Option Event → List Bool → End → List Event → Type 0
IsWalkFrom words None taken end walk = ⊥
IsWalkFrom words (Some before) taken end walk = IsWalk words before taken end walk
