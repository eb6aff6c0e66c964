-- The pieces are judged, and the rest is said of what they make.
use Rattle.ffi.proofs.checking.tracebench_check.Goals as goal

pub returns : goal.returns
returns c = (
  c.judge_pieces-judged.result,
  c.judge_pieces-judged.ensures,
  (c.check_log.result, c.check_log.ensures, c.report_checked.ensures),
)
