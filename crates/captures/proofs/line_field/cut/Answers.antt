-- The first field and those after it are a lemma on lists.
use Rattle.std.proofs.Common.{◌∷◌, ◌∙◌, ap, drop, take, sym}
use Rattle.std.specs.List.{position_or_len}
use Rattle.captures.specs.declared.line_field.Stop.TheVariants.{End}
use Rattle.captures.specs.steps.Cutting.{after_comma, fields_left, stops, unblanked}
use Rattle.captures.proofs.Fields.{cut_fields}
use Rattle.captures.proofs.Parts.{up_to_end}
use Rattle.captures.proofs.line_field.cut.Goals as goal

pub returns : goal.returns
returns c =
    let text = c.unblanked-text.result.now in
    let end = c.first_place-end.result in
    let rest = sym (c.unblanked-rest.ensures ∙ ap unblanked (up_to_end end text)) in
    cut_fields c.args.text.now
    ∙ ap (λ text. take (position_or_len (stops End) text) text
    ∷ fields_left (after_comma (unblanked (drop (position_or_len (stops End) text) text))))
    (sym c.unblanked-text.ensures)
    ∙ ap (λ end. take end text ∷ fields_left (after_comma (unblanked (drop end text))))
    (sym c.first_place-end.ensures.place)
    ∙ ap (λ rest. take end text ∷ fields_left (after_comma rest)) rest
    ∙ ap (λ rest. take end text ∷ fields_left rest) (sym c.after_comma.ensures)
