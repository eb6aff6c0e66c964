-- How harts' messages are cut into stretches.
use Rattle.std.specs.Prelude.{ℕ, ◌≡◌, List, Some, length, slice_get}
use Rattle.std.specs.declared.vec.Vec.{Vec}
use Rattle.retire.specs.declared.event.Event.{Event}
use Rattle.rvclass.specs.Words.{IsProgram, Words}
use Rattle.parallel_decode.specs.Marks.{IsMarkedLog}
use Rattle.parallel_decode.specs.declared.mark.Mark.{Mark}

-- The hart has so many messages, which settle this log, and these marks on the way through them.
pub record IsMarkedHart {A : Type 0} (words : Words) (bytes : List ℕ) (places : List (Vec ℕ A)) (hart count : ℕ)
    (marks : List Mark) (log : List Event) : Type 0 where
  pub program : IsProgram words
  pub own : Vec ℕ A
  pub own_is : slice_get places hart ≡ Some own
  pub counted : count ≡ length own.items
  pub marked : IsMarkedLog words bytes own.items marks log
