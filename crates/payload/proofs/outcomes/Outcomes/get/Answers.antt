-- The search does not relate a bit of the map to an outcome, which takes an induction.
use Rattle.std.proofs.Common.{ap, sym, ◌∙◌, arith, slice_get}
use Rattle.payload.proofs.OutcomeMaps.{get_outcome, get_past}
use Rattle.payload.proofs.outcomes.Outcomes.get.Goals as goal

pub returns-then-i-self : goal.returns-then-i-self
returns-then-i-self c =
    sym (ap (λ xs. slice_get xs c.args.i) (sym c.self.view_is)
    ∙ get_outcome c.self.inside.count c.self.inside.map c.args.i (omega arith))

pub returns-else-i-self : goal.returns-else-i-self
returns-else-i-self c =
    sym (ap (λ xs. slice_get xs c.args.i) (sym c.self.view_is)
    ∙ get_past c.self.inside.count c.self.inside.map c.args.i (omega arith))
