-- How events are handed out.
use Rattle.std.specs.Prelude.{◌≡◌, ◌++◌, List}
use Rattle.retire.specs.declared.event.Event.{Event}
use Rattle.parallel_decode.specs.Left.{HasLeft}
use Rattle.parallel_decode.specs.declared.events.HartEvents.{HartEvents}

-- Of the events that were left, the first are appended to the piece, and the others are left.
pub record Hands (rest before after : List Event) (events : HartEvents) : Type 0 where
  pub handed : List Event
  pub left : List Event
  pub whole : rest ≡ handed ++ left
  pub appended : after ≡ before ++ handed
  pub has : HasLeft left events
