-- The walks that this crate's code looks for, and what it says of them.
use Rattle.std.specs.Prelude.{ℕ, ◌≡◌, ◌+◌, ◌≤◌, Bool, List, ◌++◌, length, Some}
use Rattle.std.specs.List.{last_or}
use Rattle.isa.specs.Privilege.{IsPrivilege}
use Rattle.retire.specs.declared.event.Event.{Event}
use Rattle.retire.specs.declared.event.Event.TheVariants.{Retire}
use Rattle.rvclass.specs.Words.{Words}
use Rattle.legalpath.specs.Legal.{FollowOn}
use Rattle.legalpath.specs.Successor.{leads_from}
use Rattle.decoder.specs.steps.Leads.{may_stay_on}
use Rattle.decoder.specs.Walk.{End, AtBranch, AtAddress, AtTarget, IsWalk}
use Rattle.decoder.specs.declared.stepping.Goal.{Goal}
use Rattle.decoder.specs.declared.stepping.Goal.TheVariants as goal
use Rattle.decoder.specs.declared.stepping.Here.{Here}
use Rattle.decoder.specs.declared.walking.Walked.{Walked}

-- The retirement as an event.
abbrev pub event_of : Here → Event
event_of here = Retire here.addr here.itype here.privilege

-- Where a walk to this goal ends.
abbrev pub goal_end : Goal → End
goal_end goal.Branch = AtBranch
goal_end (goal.Address addr) = AtAddress addr
goal_end (goal.Target addr) = AtTarget addr

-- The field `next` holds where the retirement leads, and `stays` whether its privilege may stay.
abbrev pub Carries : Words → Here → Type 0
Carries words here =
    (leads_from here.addr here.itype (words here.addr) ≡ here.next) ×
    (may_stay_on (words here.addr) here.privilege ≡ here.stays)

-- The same, and the retirement's privilege is one of the three.
abbrev pub IsHere : Words → Here → Type 0
IsHere words here = Carries words here × IsPrivilege here.privilege

-- A walk from this event that follows on from it.
pub record WalksOn (words : Words) (from : Event) (taken : List Bool) (end : End) (walk : List Event) : Type 0 where
  pub fits : IsWalk words from taken end walk
  pub follows : FollowOn words (Some from) walk

-- There is such a walk, and this is its number of retirements and the last of them.
pub record Finds (words : Words) (from : Here) (taken : List Bool) (end : End) (walked : Walked) : Type 0 where
  pub walk : List Event
  pub walks : WalksOn words (event_of from) taken end walk
  pub counted : walked.count ≡ length walk
  pub last : last_or (Some (event_of from)) walk ≡ Some walked.last

-- There is no such walk.
abbrev pub FindsNone : Words → Here → List Bool → End → Type 0
FindsNone words from taken end = (walk : List Event) → WalksOn words (event_of from) taken end walk → ⊥

-- There is such a walk of `count` retirements, and the capacity is enough for it after `len` events.
abbrev pub HasRoom : Words → Here → List Bool → End → ℕ → ℕ → ℕ → Type 0
HasRoom words from taken end count len capacity =
    (walk : List Event) × WalksOn words (event_of from) taken end walk × (count ≡ length walk) ×
    (len + length walk ≤ capacity)

-- Such a walk was added, if there is one. There is one at most.
abbrev pub Adds : Words → Here → List Bool → End → List Event → List Event → Type 0
Adds words from taken end old new =
    (walk : List Event) → WalksOn words (event_of from) taken end walk → new ≡ old ++ walk
