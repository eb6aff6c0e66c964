-- The lines of the spans so far are written.
use Rattle.std.proofs.Common.{option_map}
use Rattle.frames.proofs.SpanTexts.{HasWritten}
use Rattle.frames.proofs.searched.write_spans.Given as goal

abbrev pub invariant-loop-span : goal.invariant-loop-span
invariant-loop-span g l =
    HasWritten (option_map (λ file. file.now) l.symbols) l.harts l.mode l.fn.spans l.span-iterator l.damaged
    (g.W.Write.contents l.fn.sink) (g.W.Write.contents l.sink)
