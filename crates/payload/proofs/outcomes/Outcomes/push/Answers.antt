-- The search does not relate a bit more of the map to an outcome more, which takes an induction.
use Rattle.std.proofs.Common.{◌∷◌, [], ◌++◌, ap, ◌∙◌}
use Rattle.payload.proofs.OutcomeMaps.{pushed}
use Rattle.payload.proofs.outcomes.Outcomes.push.Goals as goal

pub returns : goal.returns
returns c =
    pushed c.self.inside.count c.self.inside.map c.from.result c.args.taken c.self.invariant.0 c.self.invariant.1
    c.from.ensures
    ∙ ap (λ xs. xs ++ c.args.taken ∷ []) c.self.view_is
