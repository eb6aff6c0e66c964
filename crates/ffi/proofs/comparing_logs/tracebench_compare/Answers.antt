-- The pieces are judged, and the rest is said of what they make.
use Rattle.ffi.proofs.comparing_logs.tracebench_compare.Goals as goal

pub returns : goal.returns
returns c = (
  c.judge_pieces-judged.result,
  c.judge_pieces-judged.ensures,
  (c.compare_logs-compared.result, c.compare_logs-compared.ensures, c.report_compared.ensures),
)
