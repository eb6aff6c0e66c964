-- The pieces are judged, and the rest is said of what they make.
use Rattle.ffi.proofs.checking.tracebench_check_events.Goals as goal

pub returns : goal.returns
returns c = (
  c.judge_pieces-judged.result,
  c.judge_pieces-judged.ensures,
  (c.check_numbers.result, c.check_numbers.ensures, c.report_checked.ensures),
)
