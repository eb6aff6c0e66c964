-- The fields of the row are named by hand, each where the one before it ends.
use Rattle.std.proofs.Common.{◌∙◌, sym}
use Rattle.retire.proofs.FieldLemmas.{same_cell, same_number}
use Rattle.retire.proofs.PlainRowLemmas.{as-written, cell-on, field-on, line-ends, line-on, no_fault, row-fields}
use Rattle.retire.proofs.plain.long_row.Goals as goal

pub returns-in_err-addr-clause-reads : goal.returns-in_err-addr-clause-reads
returns-in_err-addr-clause-reads c = λ ended rest p. absurd (c.in_err-addr.ensures.reads _ _ p.first)

pub returns-in_err-itype-clause-reads : goal.returns-in_err-itype-clause-reads
returns-in_err-itype-clause-reads c = λ ended rest p.
    let e1 = c.in_ok-addr.ensures.reads _ _ p.first in
    absurd (c.in_err-itype.ensures.reads _ _ (cell-on e1 p.second))

pub returns-in_err-privilege-clause-reads : goal.returns-in_err-privilege-clause-reads
returns-in_err-privilege-clause-reads c = λ ended rest p.
    let e1 = c.in_ok-addr.ensures.reads _ _ p.first in
    let e2 = c.in_ok-itype.ensures.reads _ _ (cell-on e1 p.second) in
    absurd (c.in_err-privilege.ensures.reads _ _ (cell-on e2 p.third))

pub returns-in_err-cause-clause-reads : goal.returns-in_err-cause-clause-reads
returns-in_err-cause-clause-reads c = λ ended rest p.
    let e1 = c.in_ok-addr.ensures.reads _ _ p.first in
    let e2 = c.in_ok-itype.ensures.reads _ _ (cell-on e1 p.second) in
    let e3 = c.in_ok-privilege.ensures.reads _ _ (cell-on e2 p.third) in
    absurd (c.in_err-cause.ensures.reads _ _ (cell-on e3 p.fourth))

pub returns-in_err-tval-clause-reads : goal.returns-in_err-tval-clause-reads
returns-in_err-tval-clause-reads c = λ ended rest p.
    let e1 = c.in_ok-addr.ensures.reads _ _ p.first in
    let e2 = c.in_ok-itype.ensures.reads _ _ (cell-on e1 p.second) in
    let e3 = c.in_ok-privilege.ensures.reads _ _ (cell-on e2 p.third) in
    let e4 = c.in_ok-cause.ensures.reads _ _ (cell-on e3 p.fourth) in
    absurd (c.in_err-tval.ensures.reads _ _ (field-on e4 p.fifth) (line-ends p.ends))

pub returns-in_err-rest-clause-reads : goal.returns-in_err-rest-clause-reads
returns-in_err-rest-clause-reads c = λ ended rest p.
    let e1 = c.in_ok-addr.ensures.reads _ _ p.first in
    let e2 = c.in_ok-itype.ensures.reads _ _ (cell-on e1 p.second) in
    let e3 = c.in_ok-privilege.ensures.reads _ _ (cell-on e2 p.third) in
    let e4 = c.in_ok-cause.ensures.reads _ _ (cell-on e3 p.fourth) in
    let e5 = c.in_ok-tval.ensures.reads _ _ (field-on e4 p.fifth) (line-ends p.ends) in
    absurd (c.in_err-rest.ensures.reads ended _ (line-on e5 p.ends))

pub returns-in_err-first-clause-reads : goal.returns-in_err-first-clause-reads
returns-in_err-first-clause-reads c = λ ended rest p.
    let e1 = c.in_ok-addr.ensures.reads _ _ p.first in
    let n1 = same_cell _ _ _ _ _ c.in_ok-addr.ensures.cell p.first e1 in
    cc (sym c.in_err-first.was ∙ n1)

pub returns-in_err-second-clause-reads : goal.returns-in_err-second-clause-reads
returns-in_err-second-clause-reads c = λ ended rest p.
    let e1 = c.in_ok-addr.ensures.reads _ _ p.first in
    let h2 = cell-on e1 p.second in
    let n2 = same_cell _ _ _ _ _ c.in_ok-itype.ensures.cell h2 (c.in_ok-itype.ensures.reads _ _ h2) in
    cc (sym c.in_err-second.was ∙ n2)

pub returns-in_err-third-clause-reads : goal.returns-in_err-third-clause-reads
returns-in_err-third-clause-reads c = λ ended rest p.
    let e1 = c.in_ok-addr.ensures.reads _ _ p.first in
    let e2 = c.in_ok-itype.ensures.reads _ _ (cell-on e1 p.second) in
    let h3 = cell-on e2 p.third in
    let n3 = same_cell _ _ _ _ _ c.in_ok-privilege.ensures.cell h3 (c.in_ok-privilege.ensures.reads _ _ h3) in
    cc (sym c.in_err-third.was ∙ n3)

pub returns-in-Ok-clause-row : goal.returns-in-Ok-clause-row
returns-in-Ok-clause-row c =
    row-fields c.args.is_ended c.args.row c.in_ok-first.first c.in_ok-second.second c.in_ok-third.third c.args.text.now _ _ _ _ _
    c.in_ok-rest.rest.now _ _ _ _ _ c.in-Ok.event
    (as-written c.in_ok-addr.ensures.cell) (as-written c.in_ok-itype.ensures.cell)
    (as-written c.in_ok-privilege.ensures.cell) (as-written c.in_ok-cause.ensures.cell)
    (as-written c.in_ok-tval.ensures.field) c.in_ok-rest.ensures.ends
    c.in_ok-first.was c.in_ok-second.was c.in_ok-third.was (sym c.in-Ok.ensures)

pub returns-in-Ok-clause-reads : goal.returns-in-Ok-clause-reads
returns-in-Ok-clause-reads c = λ ended rest p.
    let e1 = c.in_ok-addr.ensures.reads _ _ p.first in
    let e2 = c.in_ok-itype.ensures.reads _ _ (cell-on e1 p.second) in
    let e3 = c.in_ok-privilege.ensures.reads _ _ (cell-on e2 p.third) in
    let e4 = c.in_ok-cause.ensures.reads _ _ (cell-on e3 p.fourth) in
    let e5 = c.in_ok-tval.ensures.reads _ _ (field-on e4 p.fifth) (line-ends p.ends) in
    c.in_ok-rest.ensures.reads ended _ (line-on e5 p.ends)

pub returns-in-Err-clause-reads : goal.returns-in-Err-clause-reads
returns-in-Err-clause-reads c = λ ended rest p.
    let e1 = c.in_ok-addr.ensures.reads _ _ p.first in
    let h2 = cell-on e1 p.second in
    let e2 = c.in_ok-itype.ensures.reads _ _ h2 in
    let h3 = cell-on e2 p.third in
    let e3 = c.in_ok-privilege.ensures.reads _ _ h3 in
    let h4 = cell-on e3 p.fourth in
    let e4 = c.in_ok-cause.ensures.reads _ _ h4 in
    let h5 = field-on e4 p.fifth in
    let e5 = c.in_ok-tval.ensures.reads _ _ h5 (line-ends p.ends) in
    let n1 = sym c.in_ok-first.was ∙ same_cell _ _ _ _ _ c.in_ok-addr.ensures.cell p.first e1 in
    let n2 = sym c.in_ok-second.was ∙ same_cell _ _ _ _ _ c.in_ok-itype.ensures.cell h2 e2 in
    let n3 = sym c.in_ok-third.was ∙ same_cell _ _ _ _ _ c.in_ok-privilege.ensures.cell h3 e3 in
    let n4 = same_cell _ _ _ _ _ c.in_ok-cause.ensures.cell h4 e4 in
    let n5 = same_number _ _ _ _ _ c.in_ok-tval.ensures.field h5 e5 in
    absurd (no_fault _ _ _ _ _ _ _ _ _ _ _ _ _ n1 n2 n3 n4 n5 p.known (sym c.in-Err.ensures))
