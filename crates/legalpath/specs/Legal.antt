-- Which logs are legal.
use Rattle.std.specs.Prelude.{List, [], ◌∷◌, Option, Some, None}
use Rattle.retire.specs.declared.event.Event.{Event}
use Rattle.rvclass.specs.Words.{Words}
use Rattle.legalpath.specs.Right.{Right}
use Rattle.legalpath.specs.Step.{StepFrom}

-- Each of these events is right by itself and may follow the event before it. The event before the first of them is the
-- given one, if there is one.
abbrev pub FollowOn : Words → Option Event → List Event → Type 0
FollowOn words before [] = Unit {0}
FollowOn words before (event ∷ events) =
    Right words event × StepFrom words before event × FollowOn words (Some event) events

-- A log is legal: each event is right by itself, and each may follow the one before.
abbrev pub Legal : Words → List Event → Type 0
Legal words log = FollowOn words None log
