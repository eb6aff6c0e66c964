-- What holds of each step from a retirement that is no uninferable discontinuity.
use Rattle.std.specs.Prelude.{ℕ, ◌≡◌, ◌<◌, true, false}
use Rattle.retire.specs.Events.{place, privilege, is_retirement, is_branch}
use Rattle.retire.specs.declared.event.Event.{Event}
use Rattle.rvclass.specs.Words.{Words, IsProgram}
use Rattle.legalpath.specs.Backward.{is_backward}
use Rattle.legalpath.specs.Discontinuity.{is_discontinuity}
use Rattle.legalpath.specs.Right.{Right}
use Rattle.legalpath.specs.Step.{Step}
use Rattle.legalpath.specs.Successor.{successor}
use Rattle.legalpath.specs.declared.next.Next.TheVariants.{One}

-- A right retirement that is no discontinuity leads to one address.
abbrev pub LeadsToOne : Type 0
LeadsToOne =
    (words : Words) (event : Event) →
    is_retirement event ≡ true →
    is_discontinuity words event ≡ false →
    Right words event →
    (to : ℕ) × (successor words event ≡ One to)

-- Events that may follow a retirement that is no discontinuity are at one place.
abbrev pub FollowersStandTogether : Type 0
FollowersStandTogether =
    (words : Words) (event follower other : Event) →
    is_retirement event ≡ true →
    is_discontinuity words event ≡ false →
    Step words event follower →
    Step words event other →
    place follower ≡ place other

-- What follows a right retirement is at a higher address, unless the retirement is a branch, a backward jump or a
-- discontinuity.
abbrev pub FollowersStandAbove : Type 0
FollowersStandAbove =
    (words : Words) (event follower : Event) →
    IsProgram words →
    is_retirement event ≡ true →
    is_branch event ≡ false →
    is_backward words event ≡ false →
    is_discontinuity words event ≡ false →
    Right words event →
    Step words event follower →
    place event < place follower

-- What follows a retirement that is no discontinuity has its privilege.
abbrev pub FollowersKeepPrivilege : Type 0
FollowersKeepPrivilege =
    (words : Words) (event follower : Event) →
    is_retirement event ≡ true →
    is_discontinuity words event ≡ false →
    Step words event follower →
    privilege follower ≡ privilege event
