-- The laws are recursions over the messages, which no search makes.
use Rattle.std.proofs.Common.{sym}
use Rattle.message.specs.OfHart.{of_hart}
use Rattle.auditing.proofs.AloneLemmas.{answered_alone, packets_alone, refused_alike}
use Rattle.auditing.proofs.laws.harts_are_received_alone.Goals as goal

pub returns-clause-answered : goal.returns-clause-answered
returns-clause-answered c = λ harts messages message. answered_alone harts messages message

pub returns-clause-refused : goal.returns-clause-refused
returns-clause-refused c = λ words harts announced messages message why. (
  λ is.
      refused_alike words harts announced messages (of_hart message.hart messages) message why
      (answered_alone harts messages message) (sym (packets_alone message.hart messages)) is,
  λ is.
      refused_alike words harts announced (of_hart message.hart messages) messages message why
      (sym (answered_alone harts messages message)) (packets_alone message.hart messages) is,
)

pub returns-clause-packets : goal.returns-clause-packets
returns-clause-packets c = λ hart messages. packets_alone hart messages
