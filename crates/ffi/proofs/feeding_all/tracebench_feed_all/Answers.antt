-- The pieces are judged, and the rest is said of what they make.
use Rattle.ffi.proofs.feeding_all.tracebench_feed_all.Goals as goal

pub returns : goal.returns
returns c = (c.judge_pieces-judged.result, c.judge_pieces-judged.ensures, c.feed_while_room-fed.ensures)
