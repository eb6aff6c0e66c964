-- The stretches so far add the lines before the hart's rows, and the rows up to the mark before the next stretch.
use Rattle.std.proofs.Common.{◌≡◌, ℕ, List, drop}
use Rattle.std.specs.declared.vec.Vec.{Vec}
use Rattle.std.specs.declared.alloc.Global.{Global}
use Rattle.retire.specs.declared.event.Event.{Event}
use Rattle.rvclass.specs.Words.{Words}
use Rattle.parallel_decode.proofs.PlanLemmas.{Cut}
use Rattle.parallel_decode.specs.steps.Planning.{IsMarkedHart}
use Rattle.parallel_decode.specs.steps.Stretches.{HaveText}
use Rattle.parallel_decode.proofs.planning.add_hart.Given as goal

abbrev pub invariant-loop-mark : goal.invariant-loop-mark
invariant-loop-mark l = record {
  cut : (words : Words) (bytes : List ℕ) (places : List (Vec ℕ Global)) (log : List Event) (text : List ℕ)
      (m : IsMarkedHart words bytes places l.hart l.count l.marks log)
      → HaveText words bytes places l.fn.stretches.items text
      → Cut words bytes places l.hart l.count l.marks log m text (drop l.mark-index l.marks) l.next l.stretches.items;
  end : l.next.to ≡ l.count;
}
