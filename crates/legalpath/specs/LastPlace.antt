-- Where a stretch ends.
use Rattle.std.specs.Prelude.{ℕ, List, [], ◌∷◌}
use Rattle.retire.specs.Events.{place}
use Rattle.retire.specs.declared.event.Event.{Event}

-- The place of the last event of a stretch, or this one where there is no event.
abbrev pub last_place : ℕ → List Event → ℕ
last_place at [] = at
last_place at (event ∷ stretch) = last_place (place event) stretch
