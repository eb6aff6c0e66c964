-- The stretches so far add the text of the harts so far.
use Rattle.std.proofs.Common.{ℕ, List, take}
use Rattle.retire.specs.declared.event.Event.{Event}
use Rattle.rvclass.specs.Words.{IsProgram, Words}
use Rattle.parallel_decode.specs.HartsText.{harts_text_of}
use Rattle.parallel_decode.specs.Marks.{AreMarkedLogs}
use Rattle.parallel_decode.specs.steps.Stretches.{HaveText}
use Rattle.parallel_decode.proofs.planning.stretches_of.Given as goal

abbrev pub invariant-loop-hart : goal.invariant-loop-hart
invariant-loop-hart l =
    (words : Words) (bytes : List ℕ) (logs : List (List Event)) → IsProgram words
    → AreMarkedLogs words bytes l.places l.marks logs
    → HaveText words bytes l.places l.stretches.items (harts_text_of l.range 0 (take l.hart logs))
