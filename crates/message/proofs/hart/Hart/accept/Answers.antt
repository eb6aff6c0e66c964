-- What is answered to the next message is that of the payload's reading: an equation put together by hand.
use Rattle.std.proofs.Common.{◌≡◌, refl, Ok, ap, sym, ◌∙◌, arith, rules}
use Rattle.payload.specs.Reading.{reading}
use Rattle.message.specs.Accepting.{answer}
use Rattle.message.proofs.Answering.{answer-open}
use Rattle.message.proofs.hart.Hart.accept.Goals as goal

answered : (c : goal.After-self-in-Ok-1) → answer c.args.self.now c.args.message.now ≡ Ok c.in-Ok.packet
answered c =
    let read : reading c.args.message.now.payload ≡ Ok c.in-Ok.packet = ap reading (sym c.bytes.ensures.same)
    ∙ sym c.unpack.ensures.value ∙ c.in-Ok.is in
    answer-open c.args.self.now c.args.message.now c.in-Ok.packet (search rules)
    (omega (arith, c.if-message-self.false, c.if-message-self-2.false)) read

pub returns-in-Ok-clause-result : goal.returns-in-Ok-clause-result
returns-in-Ok-clause-result c = sym (answered c)

pub returns-in-Ok-clause-state : goal.returns-in-Ok-clause-state
returns-in-Ok-clause-state c = rw (answered c, c.is_closing-self.ensures) refl
