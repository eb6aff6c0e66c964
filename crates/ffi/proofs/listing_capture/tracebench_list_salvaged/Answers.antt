-- The pieces are judged, and the rest is said of what they make, for as many harts as are asked for.
use Rattle.std.proofs.Common.{subst}
use Rattle.ffi.specs.Listed.{IsTextIn}
use Rattle.ffi.specs.Listed.{HasTreated}
use Rattle.ffi.proofs.listing_capture.tracebench_list_salvaged.Goals as goal

pub returns : goal.returns
returns c = (
  c.judge_pieces-judged.result,
  c.judge_pieces-judged.ensures,
  (
    c.list_text-treated.result,
    subst (λ asked. IsTextIn c.judge_pieces-judged.result c.args.symbols.now c.args.format
        (HasTreated asked c.args.capture.now) c.list_text-treated.result) c.harts_asked.ensures c.list_text-treated.ensures,
    c.report_text.ensures,
  ),
)
