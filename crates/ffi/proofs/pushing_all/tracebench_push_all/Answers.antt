-- The pieces are judged, and the rest is said of what they make.
use Rattle.ffi.proofs.pushing_all.tracebench_push_all.Goals as goal

pub returns : goal.returns
returns c = (c.judge_pieces-judged.result, c.judge_pieces-judged.ensures, c.push_all_over.ensures)
