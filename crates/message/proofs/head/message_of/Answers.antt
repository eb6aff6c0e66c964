-- The ranges of what is read of bytes: by a law on numbers, which no tactic finds.
use Rattle.std.proofs.Common.{arith, rules, sym, subst}
use Rattle.message.proofs.Cuts.{message_of-ranges}
use Rattle.message.specs.Cut.{IsMessage}
use Rattle.message.proofs.head.message_of.Goals as goal

pub returns-clause-value : goal.returns-clause-value
returns-clause-value c = search rules

pub returns-clause-ranges : goal.returns-clause-ranges
returns-clause-ranges c =
    subst IsMessage (sym (returns-clause-value c))
    (message_of-ranges c.args.head.now c.args.payload.now (λ i. omega (arith, c.type_inv.head i))
    (λ i. omega (arith, c.type_inv.payload i)) c.requires.some c.requires.few)
