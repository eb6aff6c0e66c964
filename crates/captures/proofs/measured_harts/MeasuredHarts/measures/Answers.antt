-- The list of the model is that of the field.
use Rattle.std.proofs.Common.{◌≡◌, ◌<◌, Some, get_or, length, slice_get, subst, sym}
use Rattle.std.proofs.lemmas.Option.{slice_get-get_or}
use Rattle.captures.proofs.measured_harts.MeasuredHarts.measures.Goals as goal

pub returns-clause-value : goal.returns-clause-value
returns-clause-value c =
    let within = subst (λ all. c.args.hart < length all) (sym c.self.view_is) c.requires in
    subst (λ all. slice_get all c.args.hart ≡ Some (get_or c.self.inside.each.now c.args.hart _)) c.self.view_is
    (slice_get-get_or c.self.inside.each.now c.args.hart _ within)
