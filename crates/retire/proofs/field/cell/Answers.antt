-- A cell is a field that ends at its comma, which is named by hand.
use Rattle.std.proofs.Common.{◌∷◌, refl}
use Rattle.retire.proofs.field.cell.Goals as goal

pub returns-in_err-field-clause-reads : goal.returns-in_err-field-clause-reads
returns-in_err-field-clause-reads c = λ number rest h. absurd (c.in_err-field.ensures.reads number (44 ∷ rest) h refl)

pub returns-in_err-rest-clause-reads : goal.returns-in_err-rest-clause-reads
returns-in_err-rest-clause-reads c = λ number rest h.
    let comma = c.in_ok-field.ensures.reads number (44 ∷ rest) h refl in
    absurd (c.in_err-rest.ensures.reads rest comma)

pub returns-clause-reads : goal.returns-clause-reads
returns-clause-reads c = λ number rest h.
    let comma = c.in_ok-field.ensures.reads number (44 ∷ rest) h refl in
    c.in_ok-rest.ensures.reads rest comma
