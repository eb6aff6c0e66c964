-- The fields of the row are named by hand.
use Rattle.std.proofs.Common.{◌∙◌, sym}
use Rattle.retire.proofs.ShortRowLemmas.{short-quoted}
use Rattle.retire.proofs.short_quoted_row.short_quoted_row.Goals as goal

pub returns-in-Ok : goal.returns-in-Ok
returns-in-Ok c =
    let (end, tail, ends) = c.in_ok-tail.ensures in
    short-quoted c.args.is_ended c.args.row c.in_ok-addr.addr c.from.result c.from-2.result c.in_ok-tail.tail.itype
    c.in_ok-tail.tail.privilege c.args.inside.now c.in_ok-digits.digits.now c.in_ok-digits.after.now end
    c.in_ok-tail.tail.rest.now c.in-Ok.event c.in_ok-digits.ensures.cases.0 c.in_ok-digits.ensures.cases.1
    c.in_ok-addr.ensures tail ends (c.from.ensures ∙ c.value_of-itype.ensures)
    (λ e. c.if-itype-eq-NO_DIGIT.false (sym c.from.ensures ∙ e))
    (c.from-2.ensures ∙ c.value_of-privilege.ensures) (λ e. c.if-privilege-eq-NO_DIGIT.false (sym c.from-2.ensures ∙ e))
    (sym c.in-Ok.ensures)
