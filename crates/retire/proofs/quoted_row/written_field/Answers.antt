-- The field between its quotes is named by hand.
use Rattle.std.proofs.Common.{subst}
use Rattle.retire.specs.steps.PlainRow.{HasField}
use Rattle.retire.proofs.PlainRowLemmas.{in-quotes}
use Rattle.retire.proofs.quoted_row.written_field.Goals as goal

pub returns : goal.returns
returns c =
    in-quotes c.in-Some.ensures
    (subst (HasField c.in-Some.inside.now c.in_ok-field.field.number) c.in_ok-rest.ensures c.in_ok-field.ensures.field)
