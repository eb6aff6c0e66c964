-- The prover needs the lemmas that a send keeps the rule.
use Rattle.std.proofs.Common.{◌∙◌, sym}
use Rattle.funnel.proofs.PassSteps.{may_send, may_send_last}
use Rattle.funnel.proofs.port.try_pass_on.Goals as goal

pub try_send_as-requires-clause-channel : goal.try_send_as-requires-clause-channel
try_send_as-requires-clause-channel g c = c.requires.seat

pub try_send_as-requires-else-closing-clause-channel : goal.try_send_as-requires-else-closing-clause-channel
try_send_as-requires-else-closing-clause-channel g c = c.requires.seat

pub try_send_as-requires-clause-rule : goal.try_send_as-requires-clause-rule
try_send_as-requires-clause-rule g c =
    may_send_last _ _ _ _ c.requires.port c.requires.number c.requires.unfinished
    (sym c.requires.closing_is ∙ c.if-closing.true)

pub try_send_as-requires-else-closing-clause-rule :
    goal.try_send_as-requires-else-closing-clause-rule
try_send_as-requires-else-closing-clause-rule g c =
    may_send _ _ _ _ c.requires.port c.requires.number c.requires.unfinished
    (sym c.requires.closing_is ∙ c.if-closing.false)
