-- The prover needs that the port may send, and what it knows once the message is sent.
use Rattle.std.proofs.Common.{◌∙◌, ◌<◌, length, sym, arith}
use Rattle.funnel.specs.Limits.{most_messages}
use Rattle.funnel.specs.steps.Passes.{knows, sent_of}
use Rattle.funnel.proofs.PassSteps.{port_is, count_next, closed_next, is_unfinished}
use Rattle.funnel.proofs.port.Port.send.Goals as goal

pub pass_on-requires : goal.pass_on-requires
pass_on-requires g c =
    let before = c.self.invariant in
    let sent = sent_of (knows c.self.inside.pass) in
    let few : length sent < most_messages = omega (arith, before.2) in
    record {
      closing_is = c.is_closing-closing.ensures;
      seat = before.0;
      port = before.1;
      number = before.2;
      unfinished = is_unfinished sent (sym before.3 ∙ c.if-self.false) few;
    }

pub invariant_of-self : goal.invariant_of-self
invariant_of-self g c =
    let now = port_is _ _ _ c.in-Ok.ensures.sent in
    let before = c.self.invariant in (
      c.in-Ok.ensures.seat,
      now.0,
      count_next _ _ _ _ now.1 before.2,
      closed_next _ _ _ _ now.1 (sym before.3 ∙ c.if-self.false) c.is_closing-closing.ensures,
    )
