-- The search does not use that the outcomes of a map are as many as its count.
use Rattle.std.proofs.Common.{length, ap, sym, ◌∙◌}
use Rattle.payload.specs.OutcomesInverse.{length_outcomes}
use Rattle.payload.proofs.outcomes.Outcomes.len.Goals as goal

pub returns-clause-value : goal.returns-clause-value
returns-clause-value c =
    sym (length_outcomes c.self.inside.count c.self.inside.map) ∙ ap length c.self.view_is
