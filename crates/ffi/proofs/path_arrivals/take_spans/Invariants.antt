-- The spans so far were taken.
use Rattle.std.proofs.Common.{◌≡◌, ◌<◌, ◌^◌, List, [], length}
use Rattle.auditing.specs.Audits.{Audits}
use Rattle.auditing.specs.Seen.{sight_of}
use Rattle.message.specs.declared.message.Message.{Message}
use Rattle.frames.specs.Passages.{spans_left}
use Rattle.ffi.proofs.PathWalk.{HasWalked}
use Rattle.ffi.proofs.path_arrivals.take_spans.Given as goal

abbrev pub invariant-loop-passage : goal.invariant-loop-passage
invariant-loop-passage l =
    ((sent : List Message) → Audits sent [] l.fn.path → length l.fn.spans.bytes < 2 ^ 64
    → HasWalked l.fn.path.by sent (spans_left (sight_of l.fn.path.by sent) l.fn.spans)
    (spans_left (sight_of l.fn.path.by sent) l.left) l.path l.fn.arrivals.items l.arrivals.items l.fn.runs.items
    l.runs.items l.bytes (length l.left.bytes) (length l.fn.spans.bytes))
    × (l.path.by ≡ l.fn.path.by)
    × (l.path.header ≡ l.fn.path.header)
    × (length l.path.harts ≡ length l.fn.path.harts)

abbrev pub decreases-loop-passage : goal.decreases-loop-passage
decreases-loop-passage l = length l.left.bytes
