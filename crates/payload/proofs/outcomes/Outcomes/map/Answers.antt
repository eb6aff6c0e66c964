-- The search does not use that the map comes back from its outcomes.
use Rattle.std.proofs.Common.{◌<◌, ◌^◌, length, ap, sym, ◌∙◌, subst}
use Rattle.payload.specs.Outcomes.{map_of}
use Rattle.payload.specs.OutcomesInverse.{map_outcomes, length_outcomes}
use Rattle.payload.proofs.outcomes.Outcomes.map.Goals as goal

pub returns-clause-value : goal.returns-clause-value
returns-clause-value c =
    sym (map_outcomes c.self.inside.count c.self.inside.map c.self.invariant.1) ∙ ap map_of c.self.view_is

pub returns-clause-below : goal.returns-clause-below
returns-clause-below c =
    subst (λ n. c.self.inside.map < 2 ^ n) (sym (length_outcomes c.self.inside.count c.self.inside.map)
    ∙ ap length c.self.view_is) c.self.invariant.1
