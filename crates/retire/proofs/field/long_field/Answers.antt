-- The field without its prefix is named by hand.
use Rattle.std.proofs.Common.{◌∙◌, sym}
use Rattle.retire.proofs.FieldLemmas.{field-numeral, no_prefix-same}
use Rattle.retire.proofs.field.long_field.Goals as goal

pub returns-then-digits-text-clause-reads : goal.returns-then-digits-text-clause-reads
returns-then-digits-text-clause-reads c = λ number rest h end n.
    let (digits, numeral, e) = field-numeral c.args.text.now number rest h end n in
    let same =
    no_prefix-same c.args.text.now c.after_prefix-digits.result.now c.after_prefix-digits.ensures
    c.if-digits-text.true in
    c.unprefixed.ensures.reads digits rest (sym same ∙ c.after_prefix-digits.ensures ∙ e) numeral end

pub returns-else-digits-text-clause-reads : goal.returns-else-digits-text-clause-reads
returns-else-digits-text-clause-reads c = λ number rest h end n.
    let (digits, numeral, e) = field-numeral c.args.text.now number rest h end n in
    c.prefixed.ensures.reads digits rest (c.after_prefix-digits.ensures ∙ e) numeral end
