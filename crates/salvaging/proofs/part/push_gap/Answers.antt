-- What is put behind other parts is found by lemmas on lists, which no tactic finds.
use Rattle.std.proofs.Common.{rules, ◌<◌, ◌++◌, [], ◌∷◌, refl, ap, ◌∙◌}
use Rattle.salvaging.specs.declared.part.Part.TheVariants as part
use Rattle.salvaging.proofs.PushedParts.{adds_gap}
use Rattle.salvaging.proofs.part.push_gap.Goals as goal

pub returns-in_ok-reserve : goal.returns-in_ok-reserve
returns-in_ok-reserve g c =
    let lost = c.args.lost in
    let some : 0 < lost = search rules in
    let new = part.Gap lost in
    adds_gap c.args.parts.now.items c.push_reserved.new.self.items new lost
    (c.push_reserved.ensures.items ∙ ap (λ l. l ++ new ∷ []) c.in_ok-reserve.ensures.items) refl some
