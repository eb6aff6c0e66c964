-- The spans so far were read, and their rows are written.
use Rattle.std.proofs.Common.{◌≡◌, ◌<◌, ◌^◌, List, [], length}
use Rattle.message.specs.declared.message.Message.{Message}
use Rattle.frames.specs.Passages.{spans_left}
use Rattle.auditing.specs.Audits.{Audits}
use Rattle.auditing.specs.Seen.{sight_of}
use Rattle.path_commands.proofs.SpanRows.{HasRead}
use Rattle.path_commands.proofs.received.take_spans.Given as goal

abbrev pub invariant-loop-passage : goal.invariant-loop-passage
invariant-loop-passage g l =
    ((sent : List Message) → Audits sent [] l.fn.path → length l.fn.spans.bytes < 2 ^ 64
    → HasRead l.fn.path.by l.report sent (spans_left (sight_of l.fn.path.by sent) l.fn.spans)
    (spans_left (sight_of l.fn.path.by sent) l.left) l.path l.noted l.progress (length l.left.bytes)
    (length l.fn.spans.bytes)
    (g.O.Write.contents l.fn.out) (g.O.Write.contents l.out))
    × (l.path.by ≡ l.fn.path.by)
    × (l.path.header ≡ l.fn.path.header)

abbrev pub decreases-loop-passage : goal.decreases-loop-passage
decreases-loop-passage g l = length l.left.bytes
