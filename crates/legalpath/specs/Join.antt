-- Pieces of a log, joined.
use Rattle.std.specs.Prelude.{List, [], ◌∷◌, ◌++◌}
use Rattle.retire.specs.declared.event.Event.{Event}

-- The events of all pieces, in their order.
abbrev pub join : List (List Event) → List Event
join [] = []
join (piece ∷ pieces) = piece ++ join pieces
