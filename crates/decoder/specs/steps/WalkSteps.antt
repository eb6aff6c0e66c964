-- How this crate's code finds a walk, one retirement after the other. What a walk is is defined in `Walk.antt`.
use Rattle.std.specs.Prelude.{ℕ, zero, suc, ◌+◌, ◌≡◌, ◌≤◌, ◌==◌, ◌&&◌, if◌then◌else◌, Bool, true, false, List, [], ◌∷◌}
use Rattle.std.specs.Prelude.{length, drop, Option, Some, None, Result, Ok, Err}
use Rattle.std.specs.List.{last_or}
use Rattle.retire.specs.Events.{place, privilege, is_branch}
use Rattle.retire.specs.Itype as types
use Rattle.retire.specs.declared.event.Event.{Event}
use Rattle.retire.specs.declared.event.Event.TheVariants.{Retire}
use Rattle.rvclass.specs.Words.{Word, Words}
use Rattle.rvclass.specs.declared.class.Class.{Class}
use Rattle.rvclass.specs.declared.class.Class.TheVariants.{Plain, Jump, Branch, Uninferable, TrapReturn, NotRetirable}
use Rattle.legalpath.specs.Backward.{is_backward}
use Rattle.legalpath.specs.Allowed.{may_retire_at}
use Rattle.legalpath.specs.Successor.{successor}
use Rattle.legalpath.specs.WordOf.{word_of}
use Rattle.legalpath.specs.declared.next.Next.{Next}
use Rattle.legalpath.specs.declared.next.Next.TheVariants.{One, Any, NoneInside}
use Rattle.payload.specs.Limits.{most_outcomes}
use Rattle.decoder.specs.steps.Faults.{IsOnTheWay}
use Rattle.decoder.specs.steps.Leads.{may_stay_on}
use Rattle.decoder.specs.Walk.{End, AtBranch, AtAddress, AtTarget}
use Rattle.decoder.specs.steps.Walks.{event_of, Carries}
use Rattle.decoder.specs.declared.fault.DecodeFault.{DecodeFault}
use Rattle.decoder.specs.declared.stepping.Course.{Course}
use Rattle.decoder.specs.declared.stepping.Here.{Here}
use Rattle.decoder.specs.declared.stepping.Step.{Step}
use Rattle.decoder.specs.declared.stepping.Step.TheVariants.{Goes, Ends, Fails}
use Rattle.decoder.specs.declared.walking.Walked.{Walked}

-- The type of a retirement of this class by the oldest of these outcomes, and the outcomes that it
-- leaves; none where the class does not retire, or is a branch and no outcome is left.
abbrev pub type_on : Class → List Bool → Option (ℕ × List Bool)
type_on Plain taken = Some (types.other, taken)
type_on (Jump to) taken = Some (types.other, taken)
type_on (Branch to) [] = None
type_on (Branch to) (true ∷ taken) = Some (types.taken, taken)
type_on (Branch to) (false ∷ taken) = Some (types.not_taken, taken)
type_on Uninferable taken = Some (types.uninferable, taken)
type_on (TrapReturn ret) taken = Some (types.trap_return, taken)
type_on NotRetirable taken = None

-- The retirement of this type, if there is one, with the outcomes that it leaves.
abbrev pub retirement : ℕ → ℕ → Option (ℕ × List Bool) → Option (Event × List Bool)
retirement addr priv None = None
retirement addr priv (Some (itype, taken)) = Some (Retire addr itype priv, taken)

-- The retirement of this instruction at an address and a privilege, if there is an instruction and it may retire there,
-- with the outcomes that it leaves.
abbrev pub retire_on : ℕ → ℕ → Option Word → List Bool → Option (Event × List Bool)
retire_on addr priv None taken = None
retire_on addr priv (Some word) taken =
    if may_retire_at word.0 priv then retirement addr priv (type_on word.0 taken) else None

-- No outcome is left.
abbrev pub is_empty : List Bool → Bool
is_empty [] = true
is_empty (taken ∷ rest) = false

-- A walk to this end ends at this retirement, which leaves these outcomes. A walk to a target does not end by such a
-- step.
abbrev pub stops : End → Event → List Bool → Bool
stops AtBranch event taken = is_branch event && is_empty taken
stops (AtAddress addr) event taken = (place event == addr) && is_empty taken
stops (AtTarget addr) event taken = false

-- One step: no walk goes on from here, or this retirement is its last, or it goes on from this one
-- with these outcomes.
pub data Move : Type 0 where
  Stop : Move
  Last : Event → Move
  On : Event → List Bool → Move

-- A step to this retirement, if there is one.
abbrev pub next_move : Words → End → Option (Event × List Bool) → Move
next_move words end None = Stop
next_move words end (Some (event, taken)) =
    if stops end event taken then Last event else
    if is_backward words event then Stop else
    On event taken

-- The last step, to this retirement, if there is one and it leaves no outcome.
abbrev pub last_move : Option (Event × List Bool) → Move
last_move None = Stop
last_move (Some (event, [])) = Last event
last_move (Some (event, outcome ∷ taken)) = Stop

-- A step from an uninferable discontinuity at this instruction, at this privilege. Only a walk to a target takes it,
-- and it is the last.
abbrev pub target_move : Words → Option Word → ℕ → List Bool → End → Move
target_move words word priv taken AtBranch = Stop
target_move words word priv taken (AtAddress addr) = Stop
target_move words word priv taken (AtTarget addr) =
    if may_stay_on word priv then last_move (retire_on addr priv (words addr) taken) else Stop

-- A step from this event, by where it leads: to one address, to any, or to none.
abbrev pub move_to : Words → Event → List Bool → End → Next → Move
move_to words event taken end (One to) =
    next_move words end (retire_on to (privilege event) (words to) taken)
move_to words event taken end Any = target_move words (word_of words event) (privilege event) taken end
move_to words event taken end NoneInside = Stop

-- A step of a walk from this event, with these outcomes left.
unfoldable pub advance : Words → Event → List Bool → End → Move
advance words event taken end = move_to words event taken end (successor words event)

-- The event and then the walk, if there is one.
abbrev pub event_then : Event → Option (List Event) → Option (List Event)
event_then event None = None
event_then event (Some walk) = Some (event ∷ walk)

-- The walk that begins with this step, and goes on so.
abbrev pub follow : Move → (Event → List Bool → Option (List Event)) → Option (List Event)
follow Stop rest = None
follow (Last event) rest = Some (event ∷ [])
follow (On event taken) rest = event_then event (rest event taken)

-- The walk from this event with these outcomes to this end, if one has at most this many steps.
unfoldable pub walk_within : Words → ℕ → Event → List Bool → End → Option (List Event)
walk_within words zero event taken end = None
walk_within words (suc steps) event taken end =
    follow (advance words event taken end) (λ next left. walk_within words steps next left end)

-- The step that the code returns, to the retirement that was reached, after which `used` outcomes are used.
abbrev pub move_of : List Bool → Here → ℕ → Step → Move
move_of taken here used Goes = On (event_of here) (drop used taken)
move_of taken here used Ends = Last (event_of here)
move_of taken here used (Fails fault) = Stop

-- Where the walk goes on from a retirement, where that leads is kept. Where it fails, the fault is one of those on the
-- way.
abbrev pub StepCarries : Words → Here → Step → Type 0
StepCarries words here Goes = Carries words here
StepCarries words here Ends = Unit {0}
StepCarries words here (Fails fault) = IsOnTheWay fault

-- The number of the outcomes is kept with them, and it is at most that of a packet.
abbrev pub IsCourse : Course → Type 0
IsCourse course = (course.count ≡ length course.outcomes) × (course.count ≤ most_outcomes)

-- The type that the code returns, and the outcomes after the first `used`.
abbrev pub type_returned : List Bool → ℕ → Result ℕ DecodeFault → Option (ℕ × List Bool)
type_returned taken used (Ok itype) = Some (itype, drop used taken)
type_returned taken used (Err fault) = None

-- The length of a walk from this event, if there is one, and the last event after it.
abbrev pub summary : Event → Option (List Event) → Option (ℕ × Option Event)
summary from None = None
summary from (Some walk) = Some (length walk, last_or (Some from) walk)

-- The length and the last event of the walk that the code found; none where it returned a fault.
abbrev pub summary_of : Result Walked DecodeFault → Option (ℕ × Option Event)
summary_of (Ok walked) = Some (walked.count, Some walked.last)
summary_of (Err fault) = None

-- The summary with this many steps more.
abbrev pub plus : ℕ → Option (ℕ × Option Event) → Option (ℕ × Option Event)
plus steps None = None
plus steps (Some found) = Some (steps + found.0, found.1)
