-- Both calls in turn: the decoder's clauses are of packets, so what was accepted has to be said of them.
use Rattle.std.proofs.Common.{◌≡◌, refl, sym, subst, ◌∙◌}
use Rattle.rvclass.specs.Fetch.{words_of}
use Rattle.decoder.specs.Describes.{Describes}
use Rattle.message.specs.OfHart.{packets_of}
use Rattle.receiver.proofs.AcceptLemmas.{accepted_answer, accepts_kept, agrees_by, going, not_decoded, same_fault}
use Rattle.receiver.proofs.AcceptLemmas.{same_packet}
use Rattle.receiver.proofs.HoldLemmas.{holds_kept, list_of, same_hart_twice}
use Rattle.receiver.specs.Holds.{Holds, HoldsHart}
use Rattle.receiver.specs.NotReceived.{IsNotDecoded}
use Rattle.receiver.proofs.receiving.Receiver.receive.Goals as goal

pub returns-in-Ok-decode-clause-received : goal.returns-in-Ok-decode-clause-received
returns-in-Ok-decode-clause-received g c = λ programs harts messages program given.
    let holds = holds_kept programs harts messages c.args.self.now c.accept.new.self _ given.holds
    c.accept.ensures.state in
    record {
      accepts = accepts_kept harts _ c.accept.new.self c.decode.new.self
          (c.in-Ok.ensures.accepted harts messages given.accepts) c.decode.ensures.expected;
      holds = c.in-Ok-decode.ensures.decoded programs harts messages c.args.message.now program refl
          c.in-Ok.ensures.packet holds;
    }

pub returns-then-opens_another-clause-held : goal.returns-then-opens_another-clause-held
returns-then-opens_another-clause-held g c = λ programs harts messages given.
    holds_kept programs harts messages c.args.self.now c.accept.new.self _ given.holds c.accept.ensures.state

pub returns-in-Err-decode-clause-held : goal.returns-in-Err-decode-clause-held
returns-in-Err-decode-clause-held g c = λ programs harts messages given.
    let holds = holds_kept programs harts messages c.args.self.now c.accept.new.self _ given.holds
    c.accept.ensures.state in
    subst (Holds programs harts messages) (sym c.in-Err-decode.ensures.refused) holds

pub returns-in-Ok-decode-clause-received_held : goal.returns-in-Ok-decode-clause-received_held
returns-in-Ok-decode-clause-received_held g c = λ programs harts messages program given.
    c.in-Ok-decode.ensures.decoded programs harts messages c.args.message.now program refl c.in-Ok.ensures.packet
    (holds_kept programs harts messages c.args.self.now c.accept.new.self _ given c.accept.ensures.state)

pub returns-in-Err-decode-clause-undecoded : goal.returns-in-Err-decode-clause-undecoded
returns-in-Err-decode-clause-undecoded g c = λ programs harts messages packet why program given answer is.
    let all = holds_kept programs harts messages c.args.self.now c.accept.new.self _ given c.accept.ensures.state in
    let hart = c.args.message.now.hart in
    let packets = packets_of hart messages in
    let words = words_of c.args.program.now in
    let holds = subst (λ words. HoldsHart words hart packets c.accept.new.self) program (all.each hart) in
    let list = list_of programs harts messages hart c.accept.new.self all c.in-Ok.ensures.known in
    let same : packet ≡ c.in-Ok.packet = same_packet packet c.in-Ok.packet
    (sym answer ∙ sym c.accept.ensures.value ∙ c.in-Ok.is) in
    subst (λ packet. IsNotDecoded words packets packet why) (sym same)
    (subst (IsNotDecoded words packets c.in-Ok.packet) (same_fault c.in-Err-decode.fault why is)
    (not_decoded words packets c.in-Ok.packet c.in-Err-decode.fault
    (c.in-Err-decode.ensures.not_opened packets holds)
    (c.in-Err-decode.ensures.after_close packets holds)
    (c.in-Err-decode.ensures.none packets holds)
    (λ is.
    let found = c.in-Err-decode.ensures.memory packets list.0 holds list.1 is in
    (list.0, found.0, subst (λ words. Describes words packets list.0) program list.2, found.1, found.2))))

pub returns-in-Err-decode-clause-not_received : goal.returns-in-Err-decode-clause-not_received
returns-in-Err-decode-clause-not_received g c = λ programs harts messages program given.
    let message = c.args.message.now in
    let packet = c.in-Ok.packet in
    let own = sym c.accept.ensures.value ∙ c.in-Ok.is in
    let answer = accepted_answer harts messages c.args.self.now message packet given.accepts own in (
      record {
        packet = packet;
        accepted = answer;
        not_closed = going harts messages message packet given.accepts.accepted answer;
        not_decoded =
            returns-in-Err-decode-clause-undecoded g c programs harts messages packet c.in-Err-decode.fault program
            given.holds
            own refl;
      },
      agrees_by c.args.announced message packet c.in-Ok.ensures.packet
          (sym c.opens_another.ensures ∙ c.if-opens_another.false),
    )

pub returns-in-Ok-decode-clause-others : goal.returns-in-Ok-decode-clause-others
returns-in-Ok-decode-clause-others g c = λ other apart.
    same_hart_twice other c.args.self.now c.accept.new.self c.decode.new.self (c.accept.ensures.others other apart)
    (c.decode.ensures.others other apart)

pub returns-in-Err-decode-clause-others : goal.returns-in-Err-decode-clause-others
returns-in-Err-decode-clause-others g c = λ other apart.
    same_hart_twice other c.args.self.now c.accept.new.self c.decode.new.self (c.accept.ensures.others other apart)
    (c.decode.ensures.others other apart)
