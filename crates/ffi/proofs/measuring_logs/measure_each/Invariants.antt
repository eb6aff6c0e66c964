-- The first texts were measured.
use Rattle.std.proofs.Common.{take}
use Rattle.ffi.specs.steps.Measuring.{AreMeasured}
use Rattle.ffi.specs.steps.OfTexts.{AreTextsOf}
use Rattle.ffi.proofs.measuring_logs.measure_each.Given as goal

abbrev pub invariant-loop-place : goal.invariant-loop-place
invariant-loop-place l =
    AreTextsOf l.program l.logs (take l.place l.ends) (AreMeasured l.period l.mode l.measures.items)
