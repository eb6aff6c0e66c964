-- Logs split and join.
use Rattle.std.proofs.Common.{◌≡◌, refl, List, [], ◌∷◌, ◌++◌, Option, Some}
use Rattle.std.specs.List.{last_or}
use Rattle.retire.specs.declared.event.Event.{Event}
use Rattle.rvclass.specs.Words.{Words}
use Rattle.legalpath.specs.Legal.{FollowOn}

-- Events that follow on split at any place, and the event before the second part is the last of the first.
pub follow_on_split : (words : Words) (before : Option Event) (front rest : List Event)
    → FollowOn words before (front ++ rest)
    → FollowOn words before front × FollowOn words (last_or before front) rest
follow_on_split words before [] rest follows = (tt, follows)
follow_on_split words before (event ∷ front) rest follows =
    let parts = follow_on_split words (Some event) front rest follows.2 in ((follows.0, follows.1, parts.0), parts.1)

-- And they join.
pub follow_on_join : (words : Words) (before : Option Event) (front rest : List Event) → FollowOn words before front
    → FollowOn words (last_or before front) rest → FollowOn words before (front ++ rest)
follow_on_join words before [] rest first then = then
follow_on_join words before (event ∷ front) rest first then =
    (first.0, first.1, follow_on_join words (Some event) front rest first.2 then)

-- The last event of joined stretches is that of the second, or else that of the first.
pub last_or-append : (before : Option Event) (front rest : List Event)
    → last_or before (front ++ rest) ≡ last_or (last_or before front) rest
last_or-append before [] rest = refl
last_or-append before (event ∷ front) rest = last_or-append (Some event) front rest
