-- The spans so far are kept.
use Rattle.std.proofs.Common.{◌≡◌, ◌<◌, ◌^◌, length}
use Rattle.message.specs.declared.message.Message.{Message}
use Rattle.frames.specs.Passages.{Sees, spans_left}
use Rattle.auditing.specs.PayloadSights.{sight_kept}
use Rattle.path_commands.proofs.ReadSpans.{HasTaken}
use Rattle.path_commands.proofs.reading.read_spans.Given as goal

abbrev pub invariant-loop-span : goal.invariant-loop-span
invariant-loop-span l =
    ((sees : Sees) → ((message : Message) → sight_kept l.known message ≡ sees message)
    → length l.fn.spans.bytes < 2 ^ 64
    → HasTaken l.harts (length l.fn.fresh.lists.payloads.lists) (spans_left sees l.fn.spans) (spans_left sees l.left)
    l.own (length l.left.bytes) (length l.fn.spans.bytes))
    × (l.own.header ≡ l.fn.fresh.header)
    × (l.own.fault ≡ l.fn.fresh.fault)
    × (l.own.lists.payloads.by ≡ l.fn.fresh.lists.payloads.by)

abbrev pub decreases-loop-span : goal.decreases-loop-span
decreases-loop-span l = length l.left.bytes
