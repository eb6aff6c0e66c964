-- Stretches with no event of a kind.
use Rattle.std.specs.Prelude.{◌≡◌, Bool, false, List}
use Rattle.std.specs.List.{AllByRecursion}
use Rattle.retire.specs.declared.event.Event.{Event}

-- No event of the stretch passes the test.
abbrev pub NoneOf : (Event → Bool) → List Event → Type 0
NoneOf test stretch = AllByRecursion (λ event. test event ≡ false) stretch
