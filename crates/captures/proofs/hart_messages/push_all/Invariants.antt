use Rattle.std.proofs.Common.{◌≤◌, ◌-◌, length}
use Rattle.rvclass.specs.Fetch.{words_of}
use Rattle.captures.proofs.EncodedEvents.{EncodesFront}
use Rattle.captures.proofs.hart_messages.push_all.Given as goal

-- The events that were taken are encoded.
abbrev pub invariant-loop-taken : goal.invariant-loop-taken
invariant-loop-taken g l =
    (l.taken ≤ length l.events)
    × EncodesFront g.F.Form.text (words_of l.program) l.events l.taken l.fn.encoder l.fn.messages l.encoder l.messages

-- The events that are left.
abbrev pub decreases-loop-taken : goal.decreases-loop-taken
decreases-loop-taken g l = length l.events - l.taken
