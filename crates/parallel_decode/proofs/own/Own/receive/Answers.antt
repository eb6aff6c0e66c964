-- Both calls in turn: what is said of a hart's messages has to be said of what was accepted and decoded.
use Rattle.std.proofs.Common.{◌∙◌, sym}
use Rattle.rvclass.specs.Fetch.{words_of}
use Rattle.message.specs.OfHart.{packets_in}
use Rattle.receiver.proofs.AcceptLemmas.{agrees_by}
use Rattle.parallel_decode.proofs.OwnLemmas.{answer-is, own-next, read-is}
use Rattle.parallel_decode.proofs.own.Own.receive.Goals as goal

pub returns-in-Ok-decode-clause-received : goal.returns-in-Ok-decode-clause-received
returns-in-Ok-decode-clause-received g c = λ messages log is.
    let words = words_of c.args.program.now in
    let old = c.args.self.now in
    let message = c.args.message.now in
    let answered = sym (answer-is words c.args.announced messages log old is message) ∙ sym c.accept.ensures.result
    ∙ c.in-Ok.is in
    let decoded = c.in-Ok-decode.ensures.decoded (packets_in messages) log is.stands in (
      decoded.0,
      decoded.1,
      own-next words c.args.announced messages log old is message c.in-Ok.packet c.decode.new.self decoded.0 answered
          (sym c.opens_another.ensures ∙ c.if-opens_another.false)
          (c.in-Ok-decode.ensures.kept.0 ∙ c.accept.ensures.state) decoded.2
          (c.in-Ok-decode.ensures.closed (packets_in messages)),
    )

pub returns-in-Err-clause-refused : goal.returns-in-Err-clause-refused
returns-in-Err-clause-refused g c = λ messages log is.
    sym (answer-is (words_of c.args.program.now) c.args.announced messages log c.args.self.now is c.args.message.now)
    ∙ sym c.accept.ensures.result ∙ c.in-Err.is

pub returns-then-opens_another-clause-refused : goal.returns-then-opens_another-clause-refused
returns-then-opens_another-clause-refused g c = λ messages log is. (
  c.in-Ok.packet,
  sym (answer-is (words_of c.args.program.now) c.args.announced messages log c.args.self.now is c.args.message.now)
      ∙ sym c.accept.ensures.result ∙ c.in-Ok.is,
  sym c.opens_another.ensures ∙ c.if-opens_another.true,
)

pub returns-in-Err-decode-clause-refused : goal.returns-in-Err-decode-clause-refused
returns-in-Err-decode-clause-refused g c = λ messages log is.
    let words = words_of c.args.program.now in
    let old = c.args.self.now in
    let message = c.args.message.now in
    let answered = sym (answer-is words c.args.announced messages log old is message) ∙ sym c.accept.ensures.result
    ∙ c.in-Ok.is in (
      c.in-Ok.packet,
      answered,
      c.in-Err-decode.ensures.not_decoded (packets_in messages) log is.stands,
      agrees_by c.args.announced message c.in-Ok.packet
          (read-is words c.args.announced messages log old is message c.in-Ok.packet answered)
          (sym c.opens_another.ensures ∙ c.if-opens_another.false),
    )
