-- A second field is a lemma on lists.
use Rattle.std.proofs.Common.{◌∷◌, ◌∙◌, ap, sym, List, Option, ℕ}
use Rattle.std.proofs.Common.{Bor}
use Rattle.std.specs.Prelude.{option_map}
use Rattle.captures.specs.Line.{is_over}
use Rattle.captures.specs.steps.Cutting.{fields_left}
use Rattle.captures.proofs.Fields.{two_left}
use Rattle.captures.proofs.line_field.is_over.Goals as goal

left : Option (Bor (List ℕ)) → List (List ℕ)
left rest = fields_left (option_map (λ rest. rest.now) rest)

pub returns-in-Some-rest : goal.returns-in-Some-rest
unfolding left
returns-in-Some-rest c =
    let time = c.cut.result.0.now in
    let parted = c.cut.ensures ∙ ap (λ rest. time ∷ left rest) c.in-Some-rest.is in
    sym (ap (λ rest. is_over (left rest)) c.in-Some.is
    ∙ two_left c.in-Some.rest.now time c.in-Some-rest.field-0.now parted)
