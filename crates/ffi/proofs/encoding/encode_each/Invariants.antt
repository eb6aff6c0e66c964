-- The messages of the first texts were added.
use Rattle.std.proofs.Common.{take}
use Rattle.ffi.specs.steps.Encoding.{AddsLogs}
use Rattle.ffi.specs.steps.OfTexts.{AreTextsOf}
use Rattle.ffi.proofs.encoding.encode_each.Given as goal

abbrev pub invariant-loop-place : goal.invariant-loop-place
invariant-loop-place l =
    AreTextsOf l.program l.logs (take l.place l.ends)
    (AddsLogs l.settings.period l.settings.mode l.fn.capture.items l.capture.items)
