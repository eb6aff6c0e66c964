-- The pieces are judged, and the rest is said of what they make.
use Rattle.ffi.proofs.listing_capture.tracebench_list.Goals as goal

pub returns : goal.returns
returns c = (
  c.judge_pieces-judged.result,
  c.judge_pieces-judged.ensures,
  (c.list_text-listed.result, c.list_text-listed.ensures, c.report_text.ensures),
)
