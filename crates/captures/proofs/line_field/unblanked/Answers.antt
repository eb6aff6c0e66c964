-- What follows a place is a lemma on lists.
use Rattle.std.proofs.Common.{◌∙◌, ap, drop}
use Rattle.captures.proofs.Parts.{up_to_end}
use Rattle.captures.proofs.line_field.unblanked.Goals as goal

pub returns : goal.returns
returns c =
    let text = c.args.text.now in
    up_to_end c.first_place.result text ∙ ap (λ place. drop place text) c.first_place.ensures.place
