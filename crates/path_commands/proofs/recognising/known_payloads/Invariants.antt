-- The payloads of the messages so far are kept, and the others are left.
use Rattle.std.proofs.Common.{◌≡◌, All, List, length}
use Rattle.message.specs.Capture.{capture}
use Rattle.message.specs.Cut.{IsMessage}
use Rattle.message.specs.declared.message.Message.{Message}
use Rattle.path_commands.proofs.AddedPayloads.{HasAdded}
use Rattle.path_commands.proofs.recognising.known_payloads.Given as goal

abbrev pub invariant-loop-message : goal.invariant-loop-message
invariant-loop-message l =
    (messages : List Message) → All IsMessage messages → l.fn.sent ≡ capture messages
    → HasAdded l.fn.framed l.fn.by messages l.left l.known

abbrev pub decreases-loop-message : goal.decreases-loop-message
decreases-loop-message l = length l.left
