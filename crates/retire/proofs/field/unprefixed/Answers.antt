-- The field is named by hand, and what the digits at the front of a text leave.
use Rattle.std.proofs.Common.{◌∙◌, arith, refl}
use Rattle.retire.proofs.FieldLemmas.{numeral-front}
use Rattle.retire.proofs.PlainRowLemmas.{field-none, field-some}
use Rattle.retire.proofs.field.unprefixed.Goals as goal
use Rattle.retire.proofs.field.unprefixed.Goals.{then-found-eq0, else-found-eq0}

pub returns-in_err-found-clause-reads : goal.returns-in_err-found-clause-reads
returns-in_err-found-clause-reads c = λ field rest e numeral end.
    let front = numeral-front c.args.text.now field rest _ e numeral end refl in
    let long = c.in_err-found.ensures.long refl in
    absurd (omega (arith, front.1, long))

pub returns-clause-field : goal.returns-clause-field
returns-clause-field c = elim c.if-found-eq0.branch [
  | then-found-eq0 w ↦
      rw w.number-is
      (field-none c.args.text.now c.split_at.result.1.now c.in_ok-found.found.count w.if-found-eq0.true
      c.split_at.ensures.back)
  | else-found-eq0 w ↦
      rw w.number-is
      (field-some c.args.text.now c.split_at.result.1.now c.in_ok-found.found.value c.in_ok-found.found.count
      c.in_ok-found.ensures.digits (omega arith) c.split_at.ensures.back)
]

pub returns-clause-reads : goal.returns-clause-reads
returns-clause-reads c = λ field rest e numeral end.
    c.split_at.ensures.back
    ∙ (numeral-front c.args.text.now field rest c.in_ok-found.found.count e numeral end c.in_ok-found.ensures.all).2
