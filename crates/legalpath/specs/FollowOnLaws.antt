-- Logs split and join at any place.
use Rattle.std.specs.Prelude.{◌↔◌, List, ◌++◌, Option}
use Rattle.std.specs.List.{last_or}
use Rattle.retire.specs.declared.event.Event.{Event}
use Rattle.rvclass.specs.Words.{Words}
use Rattle.legalpath.specs.Legal.{FollowOn}

-- Two joined stretches follow on an event if and only if the first follows on that event, and the second on the last
-- event of the first. Where the first is empty, the second follows on the event itself.
abbrev pub SplitsAndJoins : Type 0
SplitsAndJoins =
    (words : Words) (before : Option Event) (front rest : List Event) →
    FollowOn words before (front ++ rest)
    ↔ (FollowOn words before front × FollowOn words (last_or before front) rest)
