-- What is answered to a message that is taken is that of the payload's reading: an equation put together by hand.
use Rattle.std.proofs.Common.{◌≡◌, ◌-◌, refl, Ok, ap, sym, ◌∙◌, arith, rules}
use Rattle.payload.specs.Reading.{reading}
use Rattle.message.specs.Lossy.{answer_lossy}
use Rattle.message.proofs.AnsweringLossy.{answer_lossy-next}
use Rattle.message.proofs.hart.Hart.accept_lossy.Goals as goal

answered : (c : goal.After-self-in-Ok-1) → answer_lossy c.args.self.now c.args.message.now
    ≡ Ok (c.in-Ok.packet, c.args.message.now.number - c.args.self.now.expected)
answered c =
    let read : reading c.args.message.now.payload ≡ Ok c.in-Ok.packet = ap reading (sym c.bytes.ensures.same)
    ∙ sym c.unpack.ensures.value ∙ c.in-Ok.is in
    answer_lossy-next c.args.self.now c.args.message.now c.in-Ok.packet (search rules) (search rules)
    (omega (arith, c.if-message-ge-END_OF_NUMBERS.false)) read

pub returns-in-Ok-clause-result : goal.returns-in-Ok-clause-result
returns-in-Ok-clause-result c =
    let missing : c.args.message.now.number - c.args.self.now.expected ≡ c.in-Some.missing = search rules in
    sym (answered c ∙ ap (λ n. Ok (c.in-Ok.packet, n)) missing)

pub returns-in-Ok-clause-state : goal.returns-in-Ok-clause-state
returns-in-Ok-clause-state c = rw (answered c, c.is_closing-self.ensures) refl
