-- A message more is in the table: by a lemma, which no search finds.
use Rattle.std.proofs.Common.{◌∙◌, true, None, Some, ap, cond, sym}
use Rattle.std.specs.Prelude.{◌==◌, ◌&&◌}
use Rattle.std.specs.Str.{bytes_eq}
use Rattle.payload.specs.Same.{known_by}
use Rattle.auditing.proofs.OwnerTables.{owner_put, put_twice}
use Rattle.auditing.specs.steps.Owning.{found, owner_after}
use Rattle.auditing.proofs.owners.add_owner.Goals as goal

pub returns-in_ok-put-in-Some : goal.returns-in_ok-put-in-Some
returns-in_ok-put-in-Some g c = λ other bytes.
    let hart = c.args.hart in
    let number = c.args.number in
    let known = known_by c.args.by c.args.payload.now in
    let old = found c.args.table.now in
    let is = (number == other) && bytes_eq known bytes in
    c.in_ok-put-in-Some.ensures.after other bytes
    ∙ ap (cond is (Some None)) (c.in_ok-before.ensures.after other bytes)
    ∙ put_twice is (Some None) (Some (Some hart)) (old other bytes)
    ∙ owner_put hart number other known bytes old None
    (ap (owner_after true hart) (sym c.in-Some.is ∙ c.in_ok-before.ensures.before))

pub returns-in-None : goal.returns-in-None
returns-in-None g c = λ other bytes.
    let hart = c.args.hart in
    let number = c.args.number in
    let known = known_by c.args.by c.args.payload.now in
    let old = found c.args.table.now in
    c.in_ok-before.ensures.after other bytes
    ∙ owner_put hart number other known bytes old (Some hart)
    (ap (owner_after true hart) (sym c.in-None.is ∙ c.in_ok-before.ensures.before))
