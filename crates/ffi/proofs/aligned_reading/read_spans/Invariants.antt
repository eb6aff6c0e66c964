-- The spans so far were read.
use Rattle.std.proofs.Common.{◌≡◌, ◌<◌, ◌^◌, ◌++◌, ℕ, [], length}
use Rattle.auditing.specs.PayloadSights.{sight_kept}
use Rattle.auditing.specs.Split.{AreSplit}
use Rattle.frames.specs.Counted.{messages_in}
use Rattle.frames.specs.Passages.{Sees, spans_left}
use Rattle.message.specs.declared.message.Message.{Message}
use Rattle.ffi.proofs.AlignedSpans.{AreCounted}
use Rattle.ffi.proofs.aligned_reading.read_spans.Given as goal

abbrev pub invariant-loop-span : goal.invariant-loop-span
invariant-loop-span l =
    ((sees : Sees) → ((message : Message) → sight_kept l.known message ≡ sees message)
    → spans_left sees l.fn.scan ≡ l.spans.items ++ spans_left sees l.left)
    × (length l.fn.scan.bytes < 2 ^ 64
    → AreCounted l.spans.items l.bytes (length l.left.bytes) (length l.fn.scan.bytes))
    × ((harts : ℕ) → AreSplit l.fn.payloads.by harts [] l.fn.payloads.lists
    → AreSplit l.fn.payloads.by harts (messages_in l.spans.items) l.payloads.lists)
    × (l.payloads.by ≡ l.fn.payloads.by)

abbrev pub decreases-loop-span : goal.decreases-loop-span
decreases-loop-span l = length l.left.bytes
