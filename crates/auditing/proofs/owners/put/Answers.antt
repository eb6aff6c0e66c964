-- The key has the number and the bytes: by what the table returns, which no search finds.
use Rattle.std.proofs.Common.{◌∙◌, Some, cond}
use Rattle.std.specs.Prelude.{◌==◌, ◌&&◌}
use Rattle.std.specs.Str.{bytes_eq}
use Rattle.auditing.specs.steps.Owning.{found}
use Rattle.auditing.proofs.owners.put.Goals as goal

pub returns-in_ok-insert-in-Some-clause-after : goal.returns-in_ok-insert-in-Some-clause-after
returns-in_ok-insert-in-Some-clause-after g c = λ other bytes.
    let its = c.in-Some.ensures in
    c.in_ok-insert-in-Some.ensures.updates.0 (other, record { items = bytes })
    ∙ (λ i. cond ((its.0 i == other) && bytes_eq (its.1 i) bytes) (Some c.args.owner) (found c.args.table.now other bytes))
