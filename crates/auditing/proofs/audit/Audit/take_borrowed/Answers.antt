-- A complete table stays so, since no payload of SENT changes: by a lemma, which no search finds.
use Rattle.std.proofs.Common.{subst, sym}
use Rattle.frames.specs.Borrowed.{message_of}
use Rattle.auditing.proofs.OwnerTables.{keeps_owners}
use Rattle.auditing.specs.declared.audit.Audit.TheInside.{Inside}
use Rattle.auditing.specs.steps.Owning.{KeepsOwners}
use Rattle.auditing.proofs.audit.Audit.take_borrowed.Goals.{in-Stranger, in_default}
use Rattle.auditing.proofs.audit.Audit.take_borrowed.Goals as goal

-- What the table has is kept by these fields.
abbrev Keeps : {A : Type 0} → Inside A → Type 0
Keeps fields = KeepsOwners fields.by fields.harts.items fields.owners.complete fields.owners.table

pub invariant_of-self : goal.invariant_of-self
invariant_of-self g c =
    let taken = c.take_of-finding in
    let own = c.self.inside in
    let kept =
    keeps_owners own.by own.harts.items taken.new.harts.items (message_of c.args.message) own.owners.complete
    own.owners.table c.self.invariant taken.ensures.after in
    elim c.match-finding.branch [
      | in-Stranger w ↦ subst Keeps (sym w.self-inside-is) kept
      | in_default w ↦ subst Keeps (sym w.self-inside-is) kept
    ]

pub invariant_of-self-else-matches : goal.invariant_of-self-else-matches
invariant_of-self-else-matches g c =
    let taken = c.take_of-finding in
    let own = c.self.inside in
    let kept =
    keeps_owners own.by own.harts.items taken.new.harts.items (message_of c.args.message) own.owners.complete
    own.owners.table c.self.invariant taken.ensures.after in
    elim c.match-finding.branch [
      | in-Stranger w ↦ subst Keeps (sym w.self-inside-is) kept
      | in_default w ↦ subst Keeps (sym w.self-inside-is) kept
    ]
