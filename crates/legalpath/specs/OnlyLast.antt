-- Stretches whose last event alone is of a kind.
use Rattle.std.specs.Prelude.{◌≡◌, Bool, true, false, List, [], ◌∷◌}
use Rattle.retire.specs.declared.event.Event.{Event}

-- The last event of the stretch passes the test, and no other does; there is a last event.
abbrev pub OnlyLast : (Event → Bool) → List Event → Type 0
OnlyLast test [] = ⊥
OnlyLast test (event ∷ []) = test event ≡ true
OnlyLast test (event ∷ next ∷ stretch) = (test event ≡ false) × OnlyLast test (next ∷ stretch)
