-- The messages so far are received and listed.
use Rattle.std.proofs.Common.{ℕ, ◌+◌, ◌≡◌, ◌≤◌, [], length}
use Rattle.rvclass.specs.Fetch.{words_of}
use Rattle.receiver.specs.Holds.{HasReceived}
use Rattle.listing.proofs.Reaching.{HasListed}
use Rattle.listing.proofs.capture_listing.list_messages.Given as goal

abbrev pub invariant-loop-message : goal.invariant-loop-message
invariant-loop-message g l =
    ((harts : ℕ) → HasReceived (λ hart. words_of l.input.program.now) harts [] l.fn.receiver
    → HasListed l.input harts l.start l.fn.messages l.messages l.number l.offset l.receiver (g.W.Write.contents
    l.initial.sink)
    (g.W.Write.contents l.sink))
    × ((l.offset + length l.messages ≡ l.start.first + length l.fn.messages)
    × (l.number + length l.messages ≤ length l.fn.messages))

abbrev pub decreases-loop-message : goal.decreases-loop-message
decreases-loop-message g l = length l.messages
