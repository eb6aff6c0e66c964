-- Each form of the field is named by hand.
use Rattle.std.proofs.Common.{arith, get_or}
use Rattle.retire.proofs.FieldLemmas.{field-filled, field-one}
use Rattle.retire.proofs.NumberLemmas.{is_hex_digit-value}
use Rattle.retire.proofs.PlainRowLemmas.{field-digit}
use Rattle.retire.proofs.field.field_before.Goals as goal

pub returns-in-Some-clause-field : goal.returns-in-Some-clause-field
returns-in-Some-clause-field c =
    field-digit c.args.text.now c.from.result c.value_of-digit.result (omega arith) c.from.ensures
    c.value_of-digit.ensures c.if-digit-eq-NO_DIGIT.false

pub returns-in-Some-clause-reads : goal.returns-in-Some-clause-reads
returns-in-Some-clause-reads c = λ number rest h end.
    let digit =
    is_hex_digit-value (get_or c.args.text.now 0 0) (rw c.value_of-digit.ensures at c.if-digit-eq-NO_DIGIT.false) in
    field-one c.args.text.now number rest _ h end (omega arith) digit c.in-Some.ensures.comma

pub returns-in-None-clause-reads : goal.returns-in-None-clause-reads
returns-in-None-clause-reads c = λ number rest h end.
    let digit =
    is_hex_digit-value (get_or c.args.text.now 0 0) (rw c.value_of-digit.ensures at c.if-digit-eq-NO_DIGIT.false) in
    c.long_field.ensures.reads number rest h end (field-filled c.args.text.now number rest h end (omega arith) digit)
