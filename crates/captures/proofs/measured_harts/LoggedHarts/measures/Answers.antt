-- The measures of a log are at the place of the log.
use Rattle.std.proofs.Common.{◌≡◌, ◌<◌, Some, ap, arith, length, refl, slice_get, subst, sym, ◌∙◌}
use Rattle.std.proofs.lemmas.List.{length-map}
use Rattle.std.proofs.lemmas.Option.{slice_get-map, slice_get_read}
use Rattle.std.specs.Option.{option_map}
use Rattle.captures.specs.Measures.{measures_of, measures_of_each}
use Rattle.captures.specs.steps.LogsAt.{LogsAt}
use Rattle.captures.proofs.measured_harts.LoggedHarts.measures.Goals as goal

pub returns-clause-value : goal.returns-clause-value
returns-clause-value g c =
    let hart = c.args.hart in
    let logs = c.self.inside.logs.now in
    let log = c.index-logs-hart.result in
    let of = measures_of c.self.inside.period c.self.inside.mode in
    let counted = subst (λ (at : LogsAt). hart < length (measures_of_each at.period at.mode at.logs))
    (sym c.self.view_is) c.requires in
    let as_many = length-map logs of in
    let found = slice_get_read logs (length logs) hart log refl (omega (arith, counted, as_many))
    c.index-logs-hart.is in
    subst (λ (at : LogsAt). slice_get (measures_of_each at.period at.mode at.logs) hart ≡ Some c.measure_log.result)
    c.self.view_is
    (slice_get-map of logs hart ∙ ap (option_map of) found ∙ ap Some (sym c.measure_log.ensures.value))
