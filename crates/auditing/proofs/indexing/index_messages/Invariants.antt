-- The first messages are indexed.
use Rattle.std.proofs.Common.{◌≡◌, All, List, length}
use Rattle.message.specs.Capture.{capture}
use Rattle.message.specs.Cut.{IsMessage}
use Rattle.message.specs.declared.message.Message.{Message}
use Rattle.auditing.proofs.Indexed.{HasIndexed}
use Rattle.auditing.proofs.indexing.index_messages.Given as goal

abbrev pub invariant-loop-hart : goal.invariant-loop-hart
invariant-loop-hart g l =
    (messages : List Message) → All IsMessage messages → l.bytes ≡ capture messages
    → HasIndexed l.harts messages l.left l.index.items

abbrev pub decreases-loop-hart : goal.decreases-loop-hart
decreases-loop-hart g l = length l.left
