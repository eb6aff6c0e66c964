-- The pieces are judged, and the rest is said of what they make.
use Rattle.ffi.proofs.encoding.tracebench_encode.Goals as goal

pub returns : goal.returns
returns c = (
  c.judge_pieces-judged.result,
  c.judge_pieces-judged.ensures,
  (c.encode_logs-made.result, c.encode_logs-made.ensures, c.report_made.ensures),
)
