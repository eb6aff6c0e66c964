-- That both ways to say it are one: by a lemma on the bytes of messages.
use Rattle.std.proofs.Common.{◌≡◌, ◌↔◌, Some, sym, subst}
use Rattle.frames.specs.Frame.{BeginsMessage}
use Rattle.frames.proofs.FrameLemmas.{message_in-begins}
use Rattle.frames.proofs.frame.message_in.Goals as goal

pub returns-clause-message : goal.returns-clause-message
returns-clause-message c = λ message.
    subst (λ answer. (answer ≡ Some message) ↔ BeginsMessage message c.args.bytes.now)
    (sym c.first_message.ensures.value)
    (message_in-begins message c.args.bytes.now c.first_message.ensures.bytes)
