-- The pieces are judged, and the rest is said of what they make.
use Rattle.ffi.proofs.measuring_logs.tracebench_measure.Goals as goal

pub returns : goal.returns
returns c = (
  c.judge_pieces-judged.result,
  c.judge_pieces-judged.ensures,
  (c.measure_logs-measured.result, c.measure_logs-measured.ensures, c.report_made.ensures),
)
