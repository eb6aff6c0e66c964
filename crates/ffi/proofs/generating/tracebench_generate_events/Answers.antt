-- The pieces are judged, and the rest is said of what they make.
use Rattle.ffi.proofs.generating.tracebench_generate_events.Goals as goal

pub returns : goal.returns
returns c = (c.judge_pieces-judged.result, c.judge_pieces-judged.ensures, c.generate_over.ensures)
