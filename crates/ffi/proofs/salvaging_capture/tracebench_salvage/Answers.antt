-- The pieces are judged, and the rest is said of what they make.
use Rattle.ffi.proofs.salvaging_capture.tracebench_salvage.Goals as goal

pub returns : goal.returns
returns c = (
  c.judge_pieces-judged.result,
  c.judge_pieces-judged.ensures,
  (c.salvage_text-salvaged.result, c.salvage_text-salvaged.ensures, c.report_text.ensures),
)
