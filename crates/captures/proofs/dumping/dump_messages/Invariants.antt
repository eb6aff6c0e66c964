-- The messages so far are dumped.
use Rattle.std.proofs.Common.{length, option_map}
use Rattle.captures.proofs.DumpedMessages.{HasDumped}
use Rattle.captures.proofs.dumping.dump_messages.Given as goal

abbrev pub invariant-loop-message : goal.invariant-loop-message
invariant-loop-message g l =
    HasDumped (option_map (λ file. file.now) l.symbols) l.harts l.mode l.fn.all l.messages l.count l.bad
    (g.W.Write.contents l.initial.sink) (g.W.Write.contents l.sink)

abbrev pub decreases-loop-message : goal.decreases-loop-message
decreases-loop-message g l = length l.messages
