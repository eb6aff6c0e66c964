-- A message is within the bytes that begin with it: by the length of both, which no tactic finds.
use Rattle.std.proofs.Common.{◌≡◌, ◌∙◌, ◌++◌, ap, arith, length, length-append, subst, sym}
use Rattle.std.specs.Prelude.{IfSome}
use Rattle.message.specs.Capture.{message_bytes}
use Rattle.message.specs.declared.message.Message.{Message}
use Rattle.path_commands.proofs.message_stream.MessageStream.next_message.Goals as goal

pub pass-requires : goal.pass-requires
pass-requires g c =
    let message = c.in-Ok-Some.message in
    let begins = subst (λ found. IfSome found (λ (m : Message). c.new.result ≡ message_bytes m ++ c.next.new.self))
    c.in-Ok-Some.field-0-is c.in-Ok-Some.ensures.message in
    let all = ap length (sym c.held.ensures ∙ sym c.new.ensures ∙ begins) in
    let parts = length-append (message_bytes message) c.next.new.self in
    let size = c.size.ensures.bytes in
    omega (arith, all, parts, size)
