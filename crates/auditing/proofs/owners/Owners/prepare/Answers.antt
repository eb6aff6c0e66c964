-- A table that is complete has the owner of each message: by a lemma, which no search finds.
use Rattle.std.proofs.Common.{◌∙◌, ap, sym}
use Rattle.payload.specs.Same.{known_by}
use Rattle.auditing.proofs.OwnerTables.{table_owner, where_ok}
use Rattle.auditing.specs.steps.Owning.{the_owner}
use Rattle.auditing.proofs.owners.Owners.prepare.Goals as goal

pub returns-then-self-2 : goal.returns-then-self-2
returns-then-self-2 g c = λ is number payload.
    ap the_owner
    (where_ok c.fill.result (sym c.is_ok-self.ensures.value ∙ is) c.fill.ensures number (known_by c.args.by payload))
    ∙ table_owner c.args.by c.args.harts.now number payload
