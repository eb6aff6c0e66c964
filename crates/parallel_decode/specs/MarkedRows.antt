-- Logs with marks on the way.
use Rattle.std.specs.Prelude.{ℕ, List}
use Rattle.std.specs.declared.vec.Vec.{Vec}
use Rattle.retire.specs.declared.event.Event.{Event}
use Rattle.rvclass.specs.Words.{Words}
use Rattle.parallel_decode.specs.Marks.{AreMarkedLogs}
use Rattle.parallel_decode.specs.declared.mark.Mark.{Mark}

-- There are logs such that these are the places of the harts' messages, and marks on the way through them.
abbrev pub HaveMarkedLogs : {A B : Type 0} → Words → List ℕ → List (Vec ℕ A) → List (Vec Mark B) → Type 0
HaveMarkedLogs words bytes places marks =
    (logs : List (List Event)) × AreMarkedLogs words bytes places marks logs
