-- The borrowed message is the message, by its payload's bytes, which no tactic finds.
use Rattle.std.proofs.Common.{◌∙◌, ℕ, List, ap}
use Rattle.auditing.specs.steps.Taking.{finding_from, ledger_after}
use Rattle.auditing.proofs.audit.Audit.take_by_hart.Goals as goal

pub returns-clause-finding : goal.returns-clause-finding
returns-clause-finding g c =
    let m = c.args.message.now in
    c.take_borrowed.ensures.finding
    ∙ ap (λ (p : List ℕ). finding_from c.args.self.now.by c.args.self.now (record { hart = m.hart; number = m.number; payload = p }))
    c.bytes.ensures.same

pub returns-clause-after : goal.returns-clause-after
returns-clause-after g c =
    let m = c.args.message.now in
    c.take_borrowed.ensures.after
    ∙ ap (λ (p : List ℕ). ledger_after c.args.self.now.by c.args.self.now (record { hart = m.hart; number = m.number; payload = p }))
    c.bytes.ensures.same
