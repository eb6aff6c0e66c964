use Rattle.std.proofs.Common.{ℕ, ◌+◌, ◌≤◌, [], length}
use Rattle.rvclass.specs.Fetch.{words_of}
use Rattle.captures.proofs.ReachingHarts.{ReachesOf}
use Rattle.receiver.specs.Holds.{HasReceived}
use Rattle.captures.proofs.capture_decoding.collect.Given as goal

-- The messages so far were received, each of a byte at least.
abbrev pub invariant-loop-message : goal.invariant-loop-message
invariant-loop-message g l =
    ((harts : ℕ) → HasReceived (λ hart. words_of l.program) harts [] l.fn.receiver
    → ReachesOf l.range (words_of l.program) harts l.announced l.fn.messages l.messages l.number l.receiver)
    × (l.number + length l.messages ≤ length l.fn.messages)

abbrev pub decreases-loop-message : goal.decreases-loop-message
decreases-loop-message g l = length l.messages
