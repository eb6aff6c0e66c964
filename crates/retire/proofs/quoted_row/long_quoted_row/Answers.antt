-- The fields of the row are named by hand, each where the one before it ends.
use Rattle.std.proofs.Common.{sym}
use Rattle.retire.proofs.PlainRowLemmas.{row-fields}
use Rattle.retire.proofs.quoted_row.long_quoted_row.Goals as goal

pub returns-in-Ok : goal.returns-in-Ok
returns-in-Ok c =
    row-fields c.args.is_ended c.args.row c.in_ok-first.first c.in_ok-second.second c.in_ok-third.third c.args.text.now
    _ _ _ _ _ c.in_ok-rest.rest.now _ _ _ _ _ c.in-Ok.event c.in_ok-addr.ensures c.in_ok-itype.ensures
    c.in_ok-privilege.ensures c.in_ok-cause.ensures c.in_ok-tval.ensures c.in_ok-rest.ensures.ends
    c.in_ok-first.was c.in_ok-second.was c.in_ok-third.was (sym c.in-Ok.ensures)
