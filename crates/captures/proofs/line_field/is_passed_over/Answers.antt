-- What is behind the blanks of a line is a lemma on lists.
use Rattle.std.proofs.Common.{◌≡◌, ◌==◌, ◌||◌, ◌∙◌, ap, rules, sym, slice_index, true, false}
use Rattle.captures.specs.Line.{is_empty}
use Rattle.captures.proofs.Fields.{passed_over}
use Rattle.captures.proofs.line_field.is_passed_over.Goals as goal

pub returns-then-is_empty : goal.returns-then-is_empty
returns-then-is_empty c =
    let text = c.unblanked-text.result.now in
    let empty : is_empty text ≡ true = search rules in
    c.if-is_empty.true
    ∙ sym (passed_over c.args.line.now
    ∙ ap (λ t. is_empty t || (slice_index t 0 == 35)) (sym c.unblanked-text.ensures)
    ∙ ap (λ b. b || (slice_index text 0 == 35)) empty)

pub returns-else-is_empty : goal.returns-else-is_empty
returns-else-is_empty c =
    let text = c.unblanked-text.result.now in
    let filled : is_empty text ≡ false = search rules in
    sym (passed_over c.args.line.now
    ∙ ap (λ t. is_empty t || (slice_index t 0 == 35)) (sym c.unblanked-text.ensures)
    ∙ ap (λ b. b || (slice_index text 0 == 35)) filled)
