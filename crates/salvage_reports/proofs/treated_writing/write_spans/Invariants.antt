-- The lines or the rows of the spans so far are written, and no more messages were passed over than spans came.
use Rattle.std.proofs.Common.{◌+◌, ◌≤◌, length, option_map}
use Rattle.frames.specs.Search.{is_chosen}
use Rattle.salvage_reports.proofs.SpanTexts.{HasWritten}
use Rattle.salvage_reports.proofs.treated_writing.write_spans.Given as goal

abbrev pub invariant-loop-span : goal.invariant-loop-span
invariant-loop-span g l = record {
  text : HasWritten l.treatments.form (is_chosen l.only) (option_map (λ file. file.now) l.symbols) l.treatments.mode
      l.treatments.treated.now l.fn.spans l.span-iterator l.place l.passed (g.W.Write.contents l.fn.sink)
      (g.W.Write.contents l.sink);
  few : l.passed + length l.span-iterator ≤ length l.fn.spans;
}
