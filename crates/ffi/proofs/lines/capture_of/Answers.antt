-- Where the capture is not written, an allocation failed: by a lemma on the faults of lines.
use Rattle.std.proofs.Common.{Err, ap, ◌∙◌}
use Rattle.ffi.proofs.LinesWritten.{has_capture}
use Rattle.ffi.proofs.lines.capture_of.Goals as goal

pub returns : goal.returns
returns c = (
  c.in-Some.settings,
  c.in-Some.is,
  has_capture c.in-Some.settings c.args.text.now c.write_capture.result
      (c.in-Err-Write.is ∙ ap Err c.in-Err-Write.field-0-is) c.write_capture.ensures.line_fault,
)
