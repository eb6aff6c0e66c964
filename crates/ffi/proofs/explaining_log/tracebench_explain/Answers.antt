-- The pieces are judged, and the rest is said of what they make.
use Rattle.ffi.proofs.explaining_log.tracebench_explain.Goals as goal

pub returns : goal.returns
returns c = (c.judge_pieces-judged.result, c.judge_pieces-judged.ensures, c.report_explain.ensures)
