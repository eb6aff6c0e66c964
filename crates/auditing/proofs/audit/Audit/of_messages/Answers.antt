-- What was counted and indexed is audited: by a law on captures, which no tactic finds.
use Rattle.std.proofs.Common.{[], refl, subst, ap, ◌∙◌}
use Rattle.auditing.specs.steps.Moving.{none_moved}
use Rattle.auditing.proofs.Starting.{started}
use Rattle.auditing.specs.steps.Indexing.{HasCounted}
use Rattle.auditing.proofs.audit.Audit.of_messages.Goals as goal

pub returns-clause-audits : goal.returns-clause-audits
returns-clause-audits g c =
    let counted = c.in_ok-counted.ensures.counted in
    let counts = c.in_ok-counted.counted.counts.items in
    let highest = c.in_ok-counted.counted.highest in (
      refl,
      started c.args.by c.args.header c.args.harts c.count_of_harts-count.result highest counted.0 c.args.bytes.now counts
          c.in_ok-index.index.items _
          (c.in_ok-moves.ensures ∙ ap none_moved c.from.ensures) c.requires
          (subst (λ bytes. HasCounted c.args.harts bytes [] counts highest counted.0) c.new.ensures counted.1)
          c.count_of_harts-count.ensures c.in_ok-index.ensures,
    )
