-- The field is named by hand, and what the digits behind a prefix leave.
use Rattle.std.proofs.Common.{◌∙◌, arith, refl}
use Rattle.retire.proofs.FieldLemmas.{numeral-front}
use Rattle.retire.proofs.PlainRowLemmas.{field-prefixed}
use Rattle.retire.proofs.field.prefixed.Goals as goal

pub returns-in_err-found-clause-reads : goal.returns-in_err-found-clause-reads
returns-in_err-found-clause-reads c = λ field rest e numeral end.
    let front = numeral-front c.args.digits.now field rest _ e numeral end refl in
    let long = c.in_err-found.ensures.long refl in
    absurd (omega (arith, front.1, long))

pub returns-then-found-eq0-clause-reads : goal.returns-then-found-eq0-clause-reads
returns-then-found-eq0-clause-reads c = λ field rest e numeral end.
    let front =
    numeral-front c.args.digits.now field rest c.in_ok-found.found.count e numeral end c.in_ok-found.ensures.all in
    omega (arith, front.0)

pub returns-clause-field : goal.returns-clause-field
returns-clause-field c =
    λ a b prefix. field-prefixed a b c.args.digits.now c.split_at.result.1.now c.in_ok-found.found.value
    c.in_ok-found.found.count prefix c.in_ok-found.ensures.digits (omega arith) c.split_at.ensures.back

pub returns-clause-reads : goal.returns-clause-reads
returns-clause-reads c = λ field rest e numeral end.
    c.split_at.ensures.back
    ∙ (numeral-front c.args.digits.now field rest c.in_ok-found.found.count e numeral end c.in_ok-found.ensures.all).2
